-- The cells that stand beside keys in a list, by key: which cell a key has, and when two lists are one.
use Rattle.std.proofs.Common.{◌≡◌, ◌≢◌, ◌⊎◌, ℕ, ◌<◌, ◌==◌, Bool, true, false, cond, List, [], ◌∷◌, Contains, map, Option, None, Some, IfSome, refl, sym, ap, ◌∙◌, subst, inl, inr, ⊎_elim, arith}
use Rattle.std.proofs.lemmas.Cmp.{eq_by_cmp_equiv, nat_cmp_total}
use Rattle.std.proofs.lemmas.Map.Keys.{IsDistinct-from_sorted, sorted_head, sorted_tail}
use Rattle.std.proofs.lemmas.Map.Lookups.{exact_unsigned}
use Rattle.std.proofs.lemmas.Map.Views.{IfSome-lookup, lookup-from_Contains, tells_apart}
use Rattle.std.specs.BTreeMap.{is_at}
use Rattle.std.specs.List.{AllByRecursion}
use Rattle.std.specs.List.Sorted.{IsStrictlySortedBy}
use Rattle.std.specs.Map.{lookup}
use Rattle.std.specs.Option.{unwrap_or}
use Rattle.std.specs.Ordering.{eq_by_cmp, is_eq, nat_cmp}
use Rattle.std.specs.declared.cmp.Ordering.TheVariants.{Less}
use Rattle.mp_outline.specs.Below.{nothing_in_nil, Contains-cases}
use Rattle.mp_outline.proofs.Pairs.{Pairs}
use Rattle.mp_msg.proofs.Ordered.{same_ordered}
use Rattle.mp_msg.specs.States.{cell_in}

pub same_key : (k l : ℕ) → is_eq (nat_cmp k l) ≡ (l == k)
same_key k l = grind arith

less : (k l : ℕ) → nat_cmp k l ≡ Less → k < l
less k l e = grind arith

module _ {Cell : Type 0} where
  -- each key stands once, and the keys ascend
  abbrev pub HasKeysInOrder : List (ℕ × Cell) → Type 0
  HasKeysInOrder es = IsStrictlySortedBy nat_cmp (map (λ p. p.0) es)

  later_key : (k : ℕ) (p : ℕ × Cell) (ps : List (ℕ × Cell)) → AllByRecursion (λ l. nat_cmp k l ≡ Less) (map (λ e. e.0) ps) → Contains ps p → k < p.0
  later_key k p [] a i = absurd (nothing_in_nil p i)
  later_key k p (r ∷ rs) a i =
      ⊎_elim
      (λ (e : r ≡ p). subst (λ (u : ℕ × Cell). k < u.0) e (less k r.0 a.0))
      (λ (m : Contains rs p). later_key k p rs a.1 m)
      (Contains-cases r p rs i)

  -- each key is below all later ones
  keys_ascend : (es : List (ℕ × Cell)) → HasKeysInOrder es → Pairs (λ p r. p.0 < r.0) es
  keys_ascend [] s = tt
  keys_ascend (p ∷ ps) s =
      let keys = map (λ (e : ℕ × Cell). e.0) ps in
      ((λ r i. later_key p.0 r ps (sorted_head nat_cmp p.0 keys s) i), keys_ascend ps (sorted_tail nat_cmp p.0 keys s))

  -- two lists of cells by key are one where each has what the other has
  pub same_cells : (es fs : List (ℕ × Cell)) → HasKeysInOrder es → HasKeysInOrder fs
      → ((k : ℕ) (c : Cell) → Contains es (k, c) → Contains fs (k, c)) → ((k : ℕ) (c : Cell) → Contains fs (k, c) → Contains es (k, c)) → es ≡ fs
  same_cells es fs s t to from =
      same_ordered (λ (p r : ℕ × Cell). p.0 < r.0) (λ p r a b. omega arith) es fs (keys_ascend es s) (keys_ascend fs t) (λ p i. to p.0 p.1 i) (λ p i. from p.0 p.1 i)

  module _ (fresh : Cell) where
    one_more : (b : Bool) (c rest : Cell) (others : Option Cell) → rest ≡ unwrap_or others fresh → cond b c rest ≡ unwrap_or (cond b (Some c) others) fresh
    one_more true c rest others e = refl
    one_more false c rest others e = e

    -- the cell of a key is the one that a search finds, else the fresh one
    pub cell_in-found : (es : List (ℕ × Cell)) (k : ℕ) → cell_in fresh es k ≡ unwrap_or (lookup (is_at (nat_cmp k)) es) fresh
    cell_in-found [] k = refl
    cell_in-found (p ∷ ps) k = rw (same_key k p.0) (one_more (p.0 == k) p.1 (cell_in fresh ps k) (lookup (is_at (nat_cmp k)) ps) (cell_in-found ps k))

    -- the cell of a key that stands there
    pub cell_in-there : (es : List (ℕ × Cell)) (k : ℕ) (c : Cell) → HasKeysInOrder es → Contains es (k, c) → cell_in fresh es k ≡ c
    cell_in-there es k c s i = cell_in-found es k ∙ ap (λ o. unwrap_or o fresh) (lookup-from_Contains (eq_by_cmp_equiv nat_cmp_total) k c es (IsDistinct-from_sorted nat_cmp (map (λ (e : ℕ × Cell). e.0) es) s) i)

    from_search : (es : List (ℕ × Cell)) (k : ℕ) (o : Option Cell) → lookup (is_at (nat_cmp k)) es ≡ o → IfSome o (λ c. Contains es (k, c)) → (cell_in fresh es k ≡ fresh) ⊎ Contains es (k, cell_in fresh es k)
    from_search es k None e there = inl (cell_in-found es k ∙ ap (λ o. unwrap_or o fresh) e)
    from_search es k (Some c) e there =
        let same : cell_in fresh es k ≡ c = cell_in-found es k ∙ ap (λ o. unwrap_or o fresh) e in
        inr (subst (λ (d : Cell). Contains es (k, d)) (sym same) there)

    -- the cell of a key is fresh, or it stands there
    pub cell_in-cases : (es : List (ℕ × Cell)) (k : ℕ) → (cell_in fresh es k ≡ fresh) ⊎ Contains es (k, cell_in fresh es k)
    cell_in-cases es k = from_search es k (lookup (is_at (nat_cmp k)) es) refl (IfSome-lookup {eq = eq_by_cmp nat_cmp} (tells_apart exact_unsigned) k es)

    -- the cell of a key that doesn't stand there is fresh
    pub cell_in-absent : (es : List (ℕ × Cell)) (k : ℕ) → ((c : Cell) → Contains es (k, c) → ⊥) → cell_in fresh es k ≡ fresh
    cell_in-absent es k none =
        ⊎_elim
        (λ (e : cell_in fresh es k ≡ fresh). e)
        (λ (i : Contains es (k, cell_in fresh es k)). absurd (none (cell_in fresh es k) i))
        (cell_in-cases es k)

    -- the cell of a key stands there where it isn't fresh
    pub there-cell_in : (es : List (ℕ × Cell)) (k : ℕ) (c : Cell) → cell_in fresh es k ≡ c → c ≢ fresh → Contains es (k, c)
    there-cell_in es k c e other =
        ⊎_elim
        (λ (f : cell_in fresh es k ≡ fresh). absurd (other (sym e ∙ f)))
        (λ (i : Contains es (k, cell_in fresh es k)). subst (λ (d : Cell). Contains es (k, d)) e i)
        (cell_in-cases es k)
