-- Files that are held as values of a map by their names' bytes.
use Rattle.std.proofs.Common.{ℕ, ◌≡◌, ◌++◌, List, Bool, true, false, Option, Some, None, IsSome, cond, if◌then◌else◌, option_map, refl, sym, ap, ◌∙◌}
use Rattle.std.specs.Prelude.{bytes_eq}
use Rattle.std.specs.Map.{update}
use Rattle.std.proofs.Math.Path.{fun_ext}
use Rattle.std.proofs.lemmas.Slice.Eq.{bytes_eq-Decides}
use Rattle.mp_outside.specs.Files.{Files, with_file, with_more}

module _ {V : Type 0} (items : V → List ℕ) where
  -- the files whose bytes these values hold
  abbrev pub held : (List ℕ → Option V) → Option Files
  held values = Some (λ name. option_map items (values name))

  -- a value is set
  pub held-set : (old new : List ℕ → Option V) (key name bytes : List ℕ) (v : V) → key ≡ name → items v ≡ bytes → ((q : List ℕ) → new q ≡ update bytes_eq old key (Some v) q) → held new ≡ with_file (held old) name bytes
  unfolding with_file
  held-set old new key name bytes v same is sets = ap Some (fun_ext (λ q. ap (option_map items) (sets q) ∙ (rw (same, ← is) (at_name q (bytes_eq name q)))))
    where
      at_name : (q : List ℕ) (here : Bool) → option_map items (cond here (Some v) (old q)) ≡ (if here then Some (items v) else option_map items (old q))
      at_name q true = refl
      at_name q false = refl

  -- the value of a name that is there is changed
  pub held-grow : (old new : List ℕ → Option V) (name more : List ℕ) (v w : V) → old name ≡ Some v → items w ≡ items v ++ more → ((q : List ℕ) → new q ≡ update bytes_eq old name (Some w) q) → held new ≡ with_more (held old) name more
  unfolding with_more
  held-grow old new name more v w was is sets = ap Some (fun_ext (λ q. ap (option_map items) (sets q) ∙ at_name q (bytes_eq name q) refl))
    where
      at_name : (q : List ℕ) (here : Bool) → bytes_eq name q ≡ here →
          option_map items (cond here (Some w) (old q)) ≡ (if here then option_map (λ bytes. bytes ++ more) (option_map items (old q)) else option_map items (old q))
      at_name q true e = rw (sym ((bytes_eq-Decides name q).0 e), was, is) refl
      at_name q false e = refl

  -- the value of a name that is there is another with the same bytes
  pub held-same : (old new : List ℕ → Option V) (name : List ℕ) (v w : V) → old name ≡ Some v → items w ≡ items v → ((q : List ℕ) → new q ≡ update bytes_eq old name (Some w) q) → held new ≡ held old
  held-same old new name v w was is sets = ap Some (fun_ext (λ q. ap (option_map items) (sets q) ∙ at_name q (bytes_eq name q) refl))
    where
      at_name : (q : List ℕ) (here : Bool) → bytes_eq name q ≡ here → option_map items (cond here (Some w) (old q)) ≡ option_map items (old q)
      at_name q true e = rw (sym ((bytes_eq-Decides name q).0 e), was, is) refl
      at_name q false e = refl

  -- a name without a value isn't there
  pub none-held : (o : Option V) → None ≡ o → IsSome (option_map items o) → ⊥
  none-held None none there = cc
  none-held (Some v) none there = cc
