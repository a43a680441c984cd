-- Beginnings of texts, and texts that grow piece by piece.
use Rattle.std.proofs.Common.{◌≡◌, ◌∙◌, ◌++◌, ◌+◌, ◌<◌, ◌≤◌, ◌==◌, ℕ, true, false, zero, suc, Option, List, [], ◌∷◌, ap, append_assoc, arith, drop, get_or, length, refl, subst, sym, take, ⊎_elim}
use Rattle.std.proofs.lemmas.Bool.{both_ways, cases_Bool, eq-eqb, eqb-true}
use Rattle.std.specs.List.{flat_map}
use Rattle.std.proofs.lemmas.Grind.{flat_map-append}
use Rattle.std.proofs.lemmas.List.{append-nil, take-append-drop}
use Rattle.std.proofs.Math.Seq.{take-suc}
use Rattle.mp_names.specs.declared.controls.Move.{Move}
use Rattle.mp_names.specs.declared.kinds.Kept.{Kept}
use Rattle.mp_names.specs.declared.kinds.Kind.TheVariants.{Ingest}
use Rattle.mp_names.specs.Names.{IsPrefix, joined_below}
use Rattle.mp_outside.specs.Sink.{grown}

pub prefix_then : (a b c : List ℕ) → IsPrefix a b → IsPrefix b c → IsPrefix a c
prefix_then a b c h i = (h.0 ++ i.0, sym (append_assoc a h.0 i.0) ∙ ap (λ (l : List ℕ). l ++ i.0) h.1 ∙ i.1)

-- a part of the piece that comes next
pub part_of_next : (a piece : List ℕ) (k : ℕ) → IsPrefix (a ++ take k piece) (a ++ piece)
part_of_next a piece k = (drop k piece, append_assoc a (take k piece) (drop k piece) ∙ ap (λ (l : List ℕ). a ++ l) (take-append-drop k piece))

-- what stands where there is no move
abbrev pub no_move : Move
no_move = record { time = 0; stage = 0; bin = 0; from = 0; to = 0 }

-- what stands where there is no step
abbrev pub no_step : Kept
no_step = record { kind = Ingest; version = 0 }

module _ {X : Type 0} (f : X → List ℕ) (xs : List X) where
  -- the pieces of one item more
  pub one_at : (n : ℕ) (x : X) → n < length xs → flat_map f (take (n + 1) xs) ≡ flat_map f (take n xs) ++ f (get_or xs n x)
  one_at n x l =
      let next : suc n ≡ n + 1 = omega arith in
      let step : flat_map f (take (suc n) xs) ≡ flat_map f (take n xs) ++ f (get_or xs n x) =
      ap (flat_map f) (take-suc xs n x l) ∙ flat_map-append f (take n xs) (get_or xs n x ∷ []) ∙ ap (λ (r : List ℕ). flat_map f (take n xs) ++ r) (append-nil (f (get_or xs n x))) in
      subst (λ (k : ℕ). flat_map f (take k xs) ≡ flat_map f (take n xs) ++ f (get_or xs n x)) next step

  -- the pieces of the first items begin those of all
  pub begins : (n : ℕ) → IsPrefix (flat_map f (take n xs)) (flat_map f xs)
  begins n = (flat_map f (drop n xs), sym (flat_map-append f (take n xs) (drop n xs)) ∙ ap (flat_map f) (take-append-drop n xs))

  -- and so do they with a part of the next one
  pub begins_at : (n k : ℕ) (x : X) → n < length xs → IsPrefix (flat_map f (take n xs) ++ take k (f (get_or xs n x))) (flat_map f xs)
  begins_at n k x l =
      let y = get_or xs n x in
      prefix_then (flat_map f (take n xs) ++ take k (f y)) (flat_map f (take (n + 1) xs)) (flat_map f xs)
      (subst (λ (r : List ℕ). IsPrefix (flat_map f (take n xs) ++ take k (f y)) r) (sym (one_at n x l)) (part_of_next (flat_map f (take n xs)) (f y) k))
      (begins (n + 1))

module _ (f : ℕ → List ℕ) where
  -- the same for the pieces of the numbers below one
  pub joined_begins : (n m : ℕ) → n ≤ m → IsPrefix (joined_below n f) (joined_below m f)
  joined_begins zero m l = (joined_below m f, refl)
  joined_begins (suc n) zero l = absurd (omega arith)
  joined_begins (suc n) (suc m) l =
      ⊎_elim
      (λ (e : (n == m) ≡ true). subst (λ (p : ℕ). IsPrefix (joined_below (suc n) f) (joined_below (suc p) f)) (eqb-true n m e) ([], append-nil (joined_below (suc n) f)))
      (λ (e : (n == m) ≡ false).
      let apart : n ≡ m → ⊥ = λ s. both_ways (n == m) e (eq-eqb n m s) in
      prefix_then (joined_below (suc n) f) (joined_below m f) (joined_below (suc m) f) (joined_begins (suc n) m (omega arith)) (f m, refl))
      (cases_Bool (n == m))

  pub joined_within : (n m k : ℕ) → n < m → IsPrefix (joined_below n f ++ take k (f n)) (joined_below m f)
  joined_within n m k l =
      prefix_then (joined_below n f ++ take k (f n)) (joined_below (suc n) f) (joined_below m f) (part_of_next (joined_below n f) (f n) k) (joined_begins (suc n) m (omega arith))

  pub joined_more : (n : ℕ) → joined_below (n + 1) f ≡ joined_below n f ++ f n
  joined_more n = let next : suc n ≡ n + 1 = omega arith in subst (λ (k : ℕ). joined_below k f ≡ joined_below n f ++ f n) next refl

  pub joined_same : (g : ℕ → List ℕ) (n : ℕ) → ((w : ℕ) → w < n → f w ≡ g w) → joined_below n f ≡ joined_below n g
  joined_same g zero e = refl
  joined_same g (suc n) e = ap (λ (l : List ℕ). l ++ f n) (joined_same g n (λ w l. e w (omega arith))) ∙ ap (λ (l : List ℕ). joined_below n g ++ l) (e n (omega arith))

-- a beginning is as many of the first bytes as it has
pub prefix_taken : (a b : List ℕ) → IsPrefix a b → a ≡ take (length a) b
prefix_taken a b h = sym (subst (λ (l : List ℕ). take (length a) l ≡ a) h.1 (taken a h.0))
  where
    taken : (a r : List ℕ) → take (length a) (a ++ r) ≡ a
    taken [] r = refl
    taken (x ∷ xs) r = ap (λ (l : List ℕ). x ∷ l) (taken xs r)

-- a beginning that was added is so many of the first bytes
pub part_taken : (before now : Option (List ℕ)) (a b : List ℕ) → IsPrefix a b → now ≡ grown before a → (k : ℕ) × (now ≡ grown before (take k b))
part_taken before now a b h is = (length a, is ∙ ap (grown before) (prefix_taken a b h))
