-- The moves that are kept, sorted as a report lists them, are those of the notes.
use Rattle.std.proofs.Common.{◌≡◌, ℕ, zero, suc, ◌<◌, ◌⊎◌, false, List, [], ◌∷◌, length, get_or, refl, sym, ap, ◌∙◌, subst, inl, inr, ⊎_elim, arith}
use Rattle.std.specs.Cmp.{Equal-is, IsTotalOrder, nat_cmp_is}
use Rattle.std.specs.List.{AllPairs, Contains, IsDistinct}
use Rattle.std.specs.List.Sorted.{IsPermutation, IsSorted}
use Rattle.std.specs.Ordering.{eq_by_cmp, is_eq, is_lt, nat_cmp, ordering_reverse, ordering_then}
use Rattle.std.specs.declared.cmp.Ordering.{Ordering}
use Rattle.std.specs.declared.cmp.Ordering.TheVariants.{Less, Equal, Greater}
use Rattle.std.proofs.lemmas.Bool.{false_from_ne_true, false≢true}
use Rattle.std.proofs.lemmas.Cmp.{eq_by_cmp_equiv, nat_cmp_total, on_total, then_total}
use Rattle.std.proofs.lemmas.List.Sorted.{Contains-permutation, IsPermutation-sym, ranks_by, sorted_far}
use Rattle.std.proofs.lemmas.Map.Keys.{IsDistinct-IsPermutation, IsDistinct-from_apart, apart_from_distinct}
use Rattle.std.proofs.lemmas.Map.Lookups.{CmpEqualImpliesEq, exact_unsigned}
use Rattle.mp_names.specs.declared.controls.Move.{Move}
use Rattle.mp_bins.specs.Notes.{Notes, moves_of}
use Rattle.mp_bins.specs.Laws.{ComesFirst}
use Rattle.mp_bins.specs.Changes.{AreChangesOf}
use Rattle.mp_bins.proofs.Moved.{is_noted_move, moves_in_order, noted_move_is}
use Rattle.mp_bins.proofs.Ranking.{differ}

-- Two lists in one strict order that have the same elements are equal

module _ {X : Type 0} (R : X → X → Type 0) (one_way : (x y : X) → R x y → R y x → ⊥) where
  first_or_behind : (x y : X) (ys : List X) → AllPairs R (y ∷ ys) → (i : ℕ) → i < length (y ∷ ys) → get_or (y ∷ ys) i x ≡ x → (y ≡ x) ⊎ R y x
  first_or_behind x y ys h zero l e = inl e
  first_or_behind x y ys h (suc i) l e = inr (subst (R y) e (h zero (suc i) x (omega arith) l))

  in_rest : (x y : X) (ys : List X) → (y ≡ x → ⊥) → (i : ℕ) → i < length (y ∷ ys) → get_or (y ∷ ys) i x ≡ x → Contains ys x
  in_rest x y ys ne zero l e = absurd (ne e)
  in_rest x y ys ne (suc i) l e = (i, omega arith, e)

  rest_in_order : (x : X) (xs : List X) → AllPairs R (x ∷ xs) → AllPairs R xs
  rest_in_order x xs h i j d l m = h (suc i) (suc j) d (omega arith) (omega arith)

  -- what stands behind the first of both lists stands behind it in the second too
  rests : (x : X) (xs ys : List X) → AllPairs R (x ∷ xs) → ((z : X) → Contains (x ∷ xs) z → Contains (x ∷ ys) z) → (z : X) → Contains xs z → Contains ys z
  rests x xs ys h to z c =
      let behind : R x z = subst (R x) c.2 (h zero (suc c.0) z (omega arith) (let l = c.1 in omega arith)) in
      let r = to z (suc c.0, (let l = c.1 in omega arith), c.2) in
      in_rest z x ys (λ e. let back = subst (λ (w : X). R w z) e behind in one_way z z back back) r.0 r.1 r.2

  same_in_order : (xs ys : List X) → AllPairs R xs → AllPairs R ys → ((x : X) → Contains xs x → Contains ys x) → ((x : X) → Contains ys x → Contains xs x) → xs ≡ ys
  same_in_order [] [] h k to from = refl
  same_in_order [] (y ∷ ys) h k to from = let c = from y (0, omega arith, refl) in let l = c.1 in absurd (omega arith)
  same_in_order (x ∷ xs) [] h k to from = let c = to x (0, omega arith, refl) in let l = c.1 in absurd (omega arith)
  same_in_order (x ∷ xs) (y ∷ ys) h k to from = both heads (same_in_order xs ys (rest_in_order x xs h) (rest_in_order y ys k))
    where
      heads : x ≡ y
      heads =
          let c = to x (0, omega arith, refl) in
          let d = from y (0, omega arith, refl) in
          ⊎_elim
          (λ (e : y ≡ x). sym e)
          (λ (b : R y x). ⊎_elim (λ (e : x ≡ y). e) (λ (a : R x y). absurd (one_way x y a b)) (first_or_behind y x xs h d.0 d.1 d.2))
          (first_or_behind x y ys k c.0 c.1 c.2)

      both : x ≡ y → (((z : X) → Contains xs z → Contains ys z) → ((z : X) → Contains ys z → Contains xs z) → xs ≡ ys) → x ∷ xs ≡ y ∷ ys
      both e same =
          let forth = subst (λ (w : X). (z : X) → Contains (x ∷ xs) z → Contains (w ∷ ys) z) (sym e) to in
          let back = subst (λ (w : X). (z : X) → Contains (w ∷ ys) z → Contains (x ∷ xs) z) (sym e) from in
          let ordered = subst (λ (w : X). AllPairs R (w ∷ ys)) (sym e) k in
          ap (λ (w : X). w ∷ xs) e ∙ ap (λ (r : List X). y ∷ r) (same (rests x xs ys h forth) (rests x ys xs ordered back))

-- How moves compare: by time, stage, bin and owners

abbrev pub move_cmp : Move → Move → Ordering
move_cmp a b = ordering_then (nat_cmp a.time b.time) (ordering_then (nat_cmp a.stage b.stage) (ordering_then (nat_cmp a.bin b.bin) (ordering_then (nat_cmp a.from b.from) (nat_cmp a.to b.to))))

total : IsTotalOrder move_cmp
total =
    then_total
    (on_total (λ (m : Move). m.time) nat_cmp_total)
    (then_total (on_total (λ (m : Move). m.stage) nat_cmp_total) (then_total (on_total (λ (m : Move). m.bin) nat_cmp_total) (then_total (on_total (λ (m : Move). m.from) nat_cmp_total) (on_total (λ (m : Move). m.to) nat_cmp_total))))

both_equal : (r s : Ordering) → ordering_then r s ≡ Equal → (r ≡ Equal) × (s ≡ Equal)
both_equal Less s e = cc
both_equal Equal s e = (refl, e)
both_equal Greater s e = cc

exact : CmpEqualImpliesEq move_cmp
exact a b e =
    let time = both_equal _ _ e in
    let stage = both_equal _ _ time.1 in
    let bin = both_equal _ _ stage.1 in
    let owners = both_equal _ _ bin.1 in
    ap (λ (n : ℕ). record a { time = n }) (exact_unsigned a.time b.time time.0)
    ∙ ap (λ (n : ℕ). record a { time = b.time; stage = n }) (exact_unsigned a.stage b.stage stage.0)
    ∙ ap (λ (n : ℕ). record b { bin = n; from = a.from; to = a.to }) (exact_unsigned a.bin b.bin bin.0)
    ∙ ap (λ (n : ℕ). record b { from = n; to = a.to }) (exact_unsigned a.from b.from owners.0)
    ∙ ap (λ (n : ℕ). record b { to = n }) (exact_unsigned a.to b.to owners.1)

abbrev IsLess : Move → Move → Type 0
IsLess a b = move_cmp a b ≡ Less

one_way : (a b : Move) → IsLess a b → IsLess b a → ⊥
one_way a b h k = false≢true (ap is_lt (sym (ap ordering_reverse k)) ∙ ap is_lt (sym (total.antisymm a b)) ∙ ap is_lt h)

at_less : (m n : ℕ) → m < n → nat_cmp m n ≡ Less
at_less m n l = sym (nat_cmp_is m n Less l)

at_equal : (m n : ℕ) → m ≡ n → nat_cmp m n ≡ Equal
at_equal m n e = sym (nat_cmp_is m n Equal e)

first_is_less : (a b : Move) → ComesFirst a b → IsLess a b
first_is_less a b h =
    ⊎_elim
    (λ (l : a.time < b.time). rw (at_less a.time b.time l) refl)
    (λ (t : (a.time ≡ b.time) × _).
    ⊎_elim
    (λ (l : a.stage < b.stage). rw (at_equal a.time b.time t.0, at_less a.stage b.stage l) refl)
    (λ (s : (a.stage ≡ b.stage) × _).
    ⊎_elim
    (λ (l : a.bin < b.bin). rw (at_equal a.time b.time t.0, at_equal a.stage b.stage s.0, at_less a.bin b.bin l) refl)
    (λ (n : (a.bin ≡ b.bin) × ⊥). absurd n.1)
    s.1)
    t.1)
    h

-- neither equal nor the other way round
less_from : (a b : Move) → eq_by_cmp move_cmp a b ≡ false → is_lt (move_cmp b a) ≡ false → IsLess a b
less_from a b apart not_back = pick (move_cmp a b) refl apart
  where
    pick : (r : Ordering) → move_cmp a b ≡ r → eq_by_cmp move_cmp a b ≡ false → move_cmp a b ≡ Less
    pick Less e f = e
    pick Equal e f = absurd (false≢true (sym f ∙ ap is_eq e))
    pick Greater e f = absurd (false≢true (sym not_back ∙ ap is_lt (total.antisymm b a ∙ ap ordering_reverse e)))

-- The moves that are kept

module _ (notes : Notes) (changes sorted : List Move) (are : AreChangesOf notes.layout notes.noted changes) (moved : IsPermutation changes sorted) (up : IsSorted move_cmp sorted) where
  all_differ : IsDistinct (eq_by_cmp move_cmp) changes
  all_differ = IsDistinct-from_apart (eq_by_cmp move_cmp) changes (λ i j d l m.
      false_from_ne_true (eq_by_cmp move_cmp (get_or changes i d) (get_or changes j d)) (λ e.
      differ changes are.ranked i j d l m (exact (get_or changes i d) (get_or changes j d) ((Equal-is (move_cmp (get_or changes i d) (get_or changes j d))).0 e))))

  rising : AllPairs IsLess sorted
  rising i j d l m =
      less_from
      (get_or sorted i d)
      (get_or sorted j d)
      (apart_from_distinct (eq_by_cmp move_cmp) sorted i j d (IsDistinct-IsPermutation (eq_by_cmp move_cmp) (eq_by_cmp_equiv total).symm changes sorted moved all_differ) l m)
      (sorted_far (λ x y. is_lt (move_cmp x y)) (ranks_by total (λ m. m)) sorted up i j d (omega arith) m)

  pub sorted_is : sorted ≡ moves_of notes
  sorted_is =
      same_in_order
      IsLess
      one_way
      sorted
      (moves_of notes)
      rising
      (λ i j d l m. first_is_less (get_or (moves_of notes) i d) (get_or (moves_of notes) j d) (moves_in_order notes i j d l m))
      (λ m c. noted_move_is notes m ((are.each m).0 (Contains-permutation sorted changes m (IsPermutation-sym changes sorted moved) c)))
      (λ m c. Contains-permutation changes sorted m moved ((are.each m).1 (is_noted_move notes m c)))
