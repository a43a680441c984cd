-- Keys that are sorted and of which each is kept once, and the names that they stand for.
use Rattle.std.proofs.Common.{◌≡◌, ◌⊎◌, ℕ, zero, suc, ◌<◌, ◌&&◌, ◌==◌, nat_lt, Bool, true, false, cond, List, [], ◌∷◌, length, get_or, map, count_by, Ordering, refl, sym, subst, inl, inr, ⊎_elim, arith}
use Rattle.std.specs.Prelude.{Contains}
use Rattle.std.specs.Cmp.{IsTotalOrder, IsEquivalence}
use Rattle.std.specs.List.{AllByRecursion, dedup}
use Rattle.std.specs.List.Sorted.{IsPermutation, IsSorted, IsStrictlySortedBy}
use Rattle.std.specs.Ordering.{nat_cmp, is_eq, eq_by_cmp, ordering_then}
use Rattle.std.specs.declared.cmp.Ordering.TheVariants.{Less, Equal, Greater}
use Rattle.std.proofs.lemmas.Bool.{false≢true, eqb-true, ltb-true, ne_eqb}
use Rattle.std.proofs.lemmas.Cmp.{nat_cmp_total, nat_eq_equiv}
use Rattle.std.proofs.lemmas.List.Kept.{Contains-dedup, Contains-from_dedup, IsStrictlySortedBy-dedup}
use Rattle.std.proofs.lemmas.List.Sorted.{Contains-permutation, IsPermutation-sym}
use Rattle.std.proofs.lemmas.List.Sums.{sum_by-cons}
use Rattle.mp_names.specs.declared.names.Name.{Name}
use Rattle.mp_names.specs.Names.{In, Less as LessName, IsAscending, ascending}
use Rattle.mp_names.proofs.Lists.{In_here, In_later, In_cases, counted}
use Rattle.mp_names.proofs.Orders.{In_ascending, ascending_In, ascending_ascends, ascending_unique}

-- Elements of a list of keys

first_or_later : {K : Type 0} (y k : K) (ys : List K) (n : ℕ) → n < length (y ∷ ys) → get_or (y ∷ ys) n k ≡ k → (y ≡ k) ⊎ Contains ys k
first_or_later y k ys zero l e = inl e
first_or_later y k ys (suc n) l e = inr (n, omega arith, e)

module _ {K : Type 0} (f : K → Name) where
  key_of : (ks : List K) (x : Name) → In x (map f ks) → (k : K) × Contains ks k × (f k ≡ x)
  key_of [] x i = absurd (false≢true i)
  key_of (k ∷ ks) x i =
      ⊎_elim
      (λ (e : f k ≡ x). (k, (0, omega arith, refl), e))
      (λ (later : In x (map f ks)). let r = key_of ks x later in (r.0, (suc r.1.0, (let l = r.1.1 in omega arith), r.1.2), r.2))
      (In_cases x (f k) (map f ks) i)

  of_key : (ks : List K) (k : K) → Contains ks k → In (f k) (map f ks)
  of_key [] k c = let l = c.1 in absurd (omega arith)
  of_key (y ∷ ys) k c =
      ⊎_elim
      (λ (e : y ≡ k). subst (λ (z : K). In (f z) (map f (y ∷ ys))) e (In_here (f y) (map f ys)))
      (λ (later : Contains ys k). In_later (f k) (f y) (map f ys) (of_key ys k later))
      (first_or_later y k ys c.0 c.1 c.2)

  pub count_map : (p : Name → Bool) (ks : List K) → count_by p (map f ks) ≡ count_by (λ k. p (f k)) ks
  count_map p [] = refl
  count_map p (k ∷ ks) =
      let a = counted p (f k) (map f ks) in
      let b = count_map p ks in
      let c = sum_by-cons (λ (y : K). cond (p (f y)) 1 0) k ks in
      omega arith

  module _ (cmp : K → K → Ordering) (rises : (x y : K) → cmp x y ≡ Less → LessName (f x) (f y)) where
    all_later : (x : K) (ks : List K) → AllByRecursion (λ y. cmp x y ≡ Less) ks → (z : Name) → In z (map f ks) → LessName (f x) z
    all_later x [] h z i = absurd (false≢true i)
    all_later x (y ∷ ys) h z i =
        ⊎_elim
        (λ (e : f y ≡ z). subst (LessName (f x)) e (rises x y h.0))
        (λ (later : In z (map f ys)). all_later x ys h.1 z later)
        (In_cases z (f y) (map f ys) i)

    ascends : (ks : List K) → IsStrictlySortedBy cmp ks → IsAscending (map f ks)
    unfolding IsStrictlySortedBy
    ascends [] h = tt
    ascends (k ∷ ks) h = (all_later k ks h.0, ascends ks h.1)

-- How keys compare
pub record IsKeyOrder {K : Type 0} (f : K → Name) (cmp : K → K → Ordering) (same : K → K → Bool) : Type 0 where
  pub total : IsTotalOrder cmp
  pub alike : IsEquivalence same
  pub ties : (x y : K) → same x y ≡ eq_by_cmp cmp x y
  pub exact : (x y : K) → same x y ≡ true → x ≡ y
  pub rises : (x y : K) → cmp x y ≡ Less → LessName (f x) (f y)

module _ {K : Type 0} (f : K → Name) (cmp : K → K → Ordering) (same : K → K → Bool) (order : IsKeyOrder f cmp same) (ks sorted kept : List K) (moved : IsPermutation ks sorted) (up : IsSorted cmp sorted) (is : kept ≡ dedup same sorted) where
  kept_into : (x : Name) → In x (map f kept) → In x (map f ks)
  kept_into x i =
      let r = key_of f (dedup same sorted) x (subst (λ (l : List K). In x (map f l)) is i) in
      subst (λ (y : Name). In y (map f ks)) r.2 (of_key f ks r.0 (Contains-permutation sorted ks r.0 (IsPermutation-sym ks sorted moved) (Contains-from_dedup same sorted r.0 r.1)))

  kept_back : (x : Name) → In x (map f ks) → In x (map f kept)
  kept_back x i =
      let r = key_of f ks x i in
      let c = Contains-dedup order.alike order.exact sorted r.0 (Contains-permutation ks sorted r.0 moved r.1) in
      subst (λ (l : List K). In x (map f l)) (sym is) (subst (λ (y : Name). In y (map f (dedup same sorted))) r.2 (of_key f (dedup same sorted) r.0 c))

  -- the names of those that are kept are those of all in rank order
  pub kept_are : map f kept ≡ ascending (map f ks)
  kept_are =
      ascending_unique
      (map f kept)
      (ascending (map f ks))
      (subst (λ (l : List K). IsAscending (map f l)) (sym is) (ascends f cmp order.rises (dedup same sorted) (IsStrictlySortedBy-dedup order.total order.ties sorted up)))
      (ascending_ascends (map f ks))
      (λ z i. ascending_In z (map f ks) (kept_into z i))
      (λ z i. kept_back z (In_ascending z (map f ks) i))

-- Numbers, and pairs of them

ties_of : (l d : Bool) → (l ≡ true → d ≡ false) → d ≡ is_eq (cond l Less (cond d Equal Greater))
ties_of true d h = h refl
ties_of false true h = refl
ties_of false false h = refl

pub nat_ties : (x y : ℕ) → (x == y) ≡ eq_by_cmp nat_cmp x y
nat_ties x y = ties_of (nat_lt x y) (x == y) (λ e. let l : x < y = ltb-true x y e in ne_eqb x y (λ (s : x ≡ y). omega arith))

pub then_ties : (o p : Ordering) → (is_eq o && is_eq p) ≡ is_eq (ordering_then o p)
then_ties Less p = refl
then_ties Equal p = refl
then_ties Greater p = refl

pub below : (x y : ℕ) → nat_cmp x y ≡ Less → x < y
below x y = by (nat_lt x y) (x == y) (λ l. ltb-true x y l)
  where
    by : (l e : Bool) → (l ≡ true → x < y) → cond l Less (cond e Equal Greater) ≡ Less → x < y
    by true e f h = f refl
    by false true f h = absurd (cc)
    by false false f h = absurd (cc)

-- numbers by which names ascend
pub numbers_in_order : (f : ℕ → Name) → ((x y : ℕ) → x < y → LessName (f x) (f y)) → IsKeyOrder f nat_cmp (λ x y. x == y)
numbers_in_order f up = record {
  total = nat_cmp_total;
  alike = nat_eq_equiv;
  ties = nat_ties;
  exact = eqb-true;
  rises = λ x y h. up x y (below x y h);
}
