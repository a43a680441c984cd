-- What is sorted by the six numbers of a rank and has no name twice is the list in rank order.
use Rattle.std.proofs.Common.{◌≡◌, ◌↔◌, ℕ, ◌+◌, ◌<◌, ◌⊎◌, nat_lt, ◌==◌, Bool, true, false, cond, List, [], ◌∷◌, ◌++◌, get_or, length, refl, sym, ap, ◌∙◌, subst, inl, inr, ⊎_elim, arith, length-append}
use Rattle.std.specs.Cmp.{IsEquivalence, IsTotalOrder}
use Rattle.std.specs.Cmp.Lexicographic.{slice_cmp, lists_total}
use Rattle.std.specs.FinMap.{nat_cmp-IsAntisymmetric, slice_cmp-IsAntisymmetric}
use Rattle.std.specs.List.{All, AllByRecursion, IsAllAdjacentAnswer, dedup, Contains}
use Rattle.std.specs.List.Retain.{IsFiltered, DiffersFromLast}
use Rattle.std.specs.List.Sorted.{IsPermutation, IsSortedByKey, IsStrictlySortedBy}
use Rattle.std.specs.Ordering.{eq_by_cmp, is_eq, is_le, is_lt, nat_cmp, ordering_reverse, ordering_then}
use Rattle.std.specs.declared.cmp.Ordering.{Ordering}
use Rattle.std.specs.declared.cmp.Ordering.TheVariants.{Less as LessOrd, Equal, Greater}
use Rattle.std.proofs.lemmas.Bool.{false≢true, eq-eqb, eqb-true, ltb-true, both_ways, cases_Bool, false_from_ne_true}
use Rattle.std.proofs.lemmas.Cmp.{nat_cmp_total, on_total, tied_itself}
use Rattle.std.proofs.lemmas.List.Elements.{All-contains, All-cons, All-nil, Contains-append_right}
use Rattle.std.proofs.lemmas.List.Filters.{dedup_is}
use Rattle.std.proofs.lemmas.List.Kept.{Contains-dedup, Contains-from_dedup, IsStrictlySortedBy-dedup}
use Rattle.std.proofs.lemmas.List.Sorted.{Contains-permutation, IsPermutation-sym}
use Rattle.mp_names.specs.declared.names.Name.{Name}
use Rattle.mp_names.specs.declared.names.Name.TheVariants.{Ctrl, Rec, Packet, Row, Group, Settled, Written}
use Rattle.mp_names.specs.contracts.names.NamePartialEq.TheImpl as NamePartialEq
use Rattle.mp_names.specs.Names.{same_name, In, IsBefore, Less, IsAscending, ascending}
use Rattle.mp_names.proofs.Lists.{In_here, In_later, In_cases, same_tag, same_name-from, same_name-refl, same_name-true, same_name_sym}
use Rattle.mp_names.proofs.Orders.{before_irreflexive, In_ascending, ascending_In, ascending_ascends, ascending_unique}
use Rattle.mp_outline_lists.specs.Ranks.{rank_cmp, rank_of}
use Rattle.mp_outline_lists.specs.declared.rank.Rank.{Rank}

-- Lists of numbers

pub two : (x y : ℕ) (o : Ordering) (P : Type 0) → ordering_then (nat_cmp x y) o ≡ LessOrd → (x < y → P) → (x ≡ y → o ≡ LessOrd → P) → P
two x y o P = by (nat_lt x y) (x == y) (λ l. ltb-true x y l) (λ e. eqb-true x y e)
  where
    by : (l e : Bool) → (l ≡ true → x < y) → (e ≡ true → x ≡ y) → ordering_then (cond l LessOrd (cond e Equal Greater)) o ≡ LessOrd → (x < y → P) → (x ≡ y → o ≡ LessOrd → P) → P
    by true e f g h p q = p (f refl)
    by false true f g h p q = q (g refl) h
    by false false f g h p q = absurd (cc)

-- what the comparison of lists answers is the order of ranks
before_from_less : (xs ys : List ℕ) → slice_cmp nat_cmp xs ys ≡ LessOrd → IsBefore xs ys
before_from_less [] [] h = absurd (cc)
before_from_less (x ∷ xs) [] h = absurd (cc)
before_from_less [] (y ∷ ys) h = tt
before_from_less (x ∷ xs) (y ∷ ys) h =
    two x y (slice_cmp nat_cmp xs ys) (IsBefore (x ∷ xs) (y ∷ ys)) h (λ l. inl l) (λ e f. inr (e, before_from_less xs ys f))

-- numbers that are the same at the end decide nothing
cut : (xs ys zs : List ℕ) → length xs ≡ length ys → IsBefore (xs ++ zs) (ys ++ zs) → IsBefore xs ys
cut [] [] zs e h = before_irreflexive zs h
cut (x ∷ xs) [] zs e h = absurd (omega arith)
cut [] (y ∷ ys) zs e h = absurd (omega arith)
cut (x ∷ xs) (y ∷ ys) zs e h = ⊎_elim (λ (l : x < y). inl l) (λ (d : (x ≡ y) × IsBefore (xs ++ zs) (ys ++ zs)). inr (d.0, cut xs ys zs (omega arith) d.1)) h

-- where the first numbers differ they decide
apart : (m n : ℕ) (P Q : Type 0) → (m == n) ≡ false → (m < n) ⊎ ((m ≡ n) × P) → (m < n) ⊎ ((m ≡ n) × Q)
apart m n P Q d h = ⊎_elim (λ (l : m < n). inl l) (λ (e : (m ≡ n) × P). absurd (both_ways (m == n) d (eq-eqb m n e.0))) h

-- Ranks as six numbers

abbrev six : Rank → List ℕ
six r = r.0 ∷ r.1 ∷ r.2 ∷ r.3 ∷ r.4 ∷ r.5 ∷ []

abbrev pub six_of : Name → List ℕ
six_of x = six (rank_of x)

then_equal : (o : Ordering) → ordering_then o Equal ≡ o
then_equal LessOrd = refl
then_equal Equal = refl
then_equal Greater = refl

-- so do their lists of numbers
six_cmp : (r s : Rank) → rank_cmp r s ≡ slice_cmp nat_cmp (six r) (six s)
six_cmp r s =
    ap
    (λ (o : Ordering).
    ordering_then (nat_cmp r.0 s.0) (ordering_then (nat_cmp r.1 s.1) (ordering_then (nat_cmp r.2 s.2) (ordering_then (nat_cmp r.3 s.3) (ordering_then (nat_cmp r.4 s.4) o)))))
    (sym (then_equal (nat_cmp r.5 s.5)))

sorted_by_six : (xs : List Name) → IsSortedByKey rank_of rank_cmp xs → IsSortedByKey six_of (slice_cmp nat_cmp) xs
sorted_by_six xs up k d low high = ap is_lt (sym (six_cmp (rank_of (get_or xs (k + 1) d)) (rank_of (get_or xs k d)))) ∙ up k d low high

-- each rank and the next in order
not_after : (o p : Ordering) → p ≡ ordering_reverse o → is_le o ≡ true → is_lt p ≡ false
not_after LessOrd p e h = ap is_lt e
not_after Equal p e h = ap is_lt e
not_after Greater p e h = absurd (false≢true h)

pub sorted_by_rank : (xs : List Name) (r : Bool) → IsAllAdjacentAnswer (λ x y b. b ≡ is_le (rank_cmp (rank_of x) (rank_of y))) xs r → r ≡ true → IsSortedByKey rank_of rank_cmp xs
sorted_by_rank xs true up e = λ k d low high.
    let r = rank_of (get_or xs k d) in
    let s = rank_of (get_or xs (k + 1) d) in
    let back : rank_cmp s r ≡ ordering_reverse (rank_cmp r s) = six_cmp s r ∙ (lists_total nat_cmp_total).antisymm (six s) (six r) ∙ ap ordering_reverse (sym (six_cmp r s)) in
    not_after (rank_cmp r s) (rank_cmp s r) back (sym (up k d high))
sorted_by_rank xs false up e = absurd (false≢true e)

less_from_six : (x y : Name) → IsBefore (six_of x) (six_of y) → Less x y
less_from_six (Ctrl i v) (Ctrl j w) h = cut (0 ∷ i ∷ v ∷ []) (0 ∷ j ∷ w ∷ []) (0 ∷ 0 ∷ 0 ∷ []) refl h
less_from_six (Rec i s k a) (Rec j t l b) h = h
less_from_six (Packet i a s) (Packet j b t) h = cut (2 ∷ s ∷ i ∷ a ∷ []) (2 ∷ t ∷ j ∷ b ∷ []) (0 ∷ 0 ∷ []) refl h
less_from_six (Row s a) (Row t b) h = cut (3 ∷ s ∷ a.0 ∷ a.1 ∷ []) (3 ∷ t ∷ b.0 ∷ b.1 ∷ []) (0 ∷ 0 ∷ []) refl h
less_from_six (Group i s k) (Group j t l) h = cut (4 ∷ s ∷ i ∷ k ∷ []) (4 ∷ t ∷ j ∷ l ∷ []) (0 ∷ 0 ∷ []) refl h
less_from_six (Settled i s) (Settled j t) h = cut (5 ∷ s ∷ i ∷ []) (5 ∷ t ∷ j ∷ []) (0 ∷ 0 ∷ 0 ∷ []) refl h
less_from_six (Written s) (Written t) h = cut (6 ∷ s ∷ []) (6 ∷ t ∷ []) (0 ∷ 0 ∷ 0 ∷ 0 ∷ []) refl h
less_from_six _ _ h = apart _ _ _ _ refl h

same_from_six : (x y : Name) → six_of x ≡ six_of y → x ≡ y
same_from_six (Ctrl i v) (Ctrl j w) e = cc
same_from_six (Rec i s k a) (Rec j t l b) e = let f : a ≡ b = same_tag a b (cc) (cc) in cc
same_from_six (Packet i a s) (Packet j b t) e = cc
same_from_six (Row s a) (Row t b) e = let f : a ≡ b = same_tag a b (cc) (cc) in cc
same_from_six (Group i s k) (Group j t l) e = cc
same_from_six (Settled i s) (Settled j t) e = cc
same_from_six (Written s) (Written t) e = cc
same_from_six _ _ e = absurd (cc)

abbrev pub name_cmp : Name → Name → Ordering
name_cmp x y = slice_cmp nat_cmp (six_of x) (six_of y)

pub name_cmp_total : IsTotalOrder name_cmp
name_cmp_total = on_total six_of (lists_total nat_cmp_total)

-- `==` of names
eq_is : (x y : Name) → NamePartialEq.eq-value.it x y ≡ same_name x y
eq_is (Ctrl i v) (Ctrl j w) = refl
eq_is (Rec i s k a) (Rec j t l b) = refl
eq_is (Packet i a s) (Packet j b t) = refl
eq_is (Row s a) (Row t b) = refl
eq_is (Group i s k) (Group j t l) = refl
eq_is (Settled i s) (Settled j t) = refl
eq_is (Written s) (Written t) = refl
eq_is _ _ = refl

-- What stands in a list

all_in : (all xs : List Name) → ((x : Name) → In x xs → In x all) → All (λ x. In x all) xs
all_in all [] h = All-nil (λ (x : Name). In x all)
all_in all (x ∷ xs) h = All-cons (λ (y : Name). In y all) x xs (h x (In_here x xs)) (all_in all xs (λ y i. h y (In_later y x xs i)))

pub in_from_contains : (x : Name) (xs : List Name) → Contains xs x → In x xs
in_from_contains x xs h = All-contains (λ (y : Name). In y xs) xs x (all_in xs xs (λ y i. i)) h

pub contains_from_in : (x : Name) (xs : List Name) → In x xs → Contains xs x
contains_from_in x [] h = absurd (false≢true h)
contains_from_in x (y ∷ ys) h =
    ⊎_elim
    (λ (e : y ≡ x). (0, let n = length-append (y ∷ []) ys in omega arith, e))
    (λ (i : In x ys). Contains-append_right (y ∷ []) ys x (contains_from_in x ys i))
    (In_cases x y ys h)

-- Sorted lists

all_less : (x : Name) (xs : List Name) → AllByRecursion (λ y. name_cmp x y ≡ LessOrd) xs → (y : Name) → In y xs → Less x y
all_less x [] h y i = absurd (false≢true i)
all_less x (z ∷ zs) h y i =
    ⊎_elim
    (λ (e : z ≡ y). subst (λ (u : Name). Less x u) e (less_from_six x z (before_from_less (six_of x) (six_of z) h.0)))
    (λ (j : In y zs). all_less x zs h.1 y j)
    (In_cases y z zs i)

ascends : (xs : List Name) → IsStrictlySortedBy name_cmp xs → IsAscending xs
unfolding IsStrictlySortedBy
ascends [] h = tt
ascends (x ∷ xs) h = (all_less x xs h.0, ascends xs h.1)

module _ (eq : Name → Name → Bool) (same : (x y : Name) → eq x y ≡ same_name x y) where
  apart_from : (x y : Name) → same_name x y ≡ false → eq_by_cmp name_cmp x y ≡ false
  apart_from x y e =
      false_from_ne_true (eq_by_cmp name_cmp x y) (λ h. both_ways (same_name x y) e (same_name-from x y (same_from_six x y (slice_cmp-IsAntisymmetric nat_cmp-IsAntisymmetric (six_of x) (six_of y) (from_test (name_cmp x y) h)))))
    where
      from_test : (o : Ordering) → is_eq o ≡ true → o ≡ Equal
      from_test LessOrd h = absurd (false≢true h)
      from_test Equal h = refl
      from_test Greater h = absurd (false≢true h)

  ties : (x y : Name) → eq x y ≡ eq_by_cmp name_cmp x y
  ties x y =
      ⊎_elim
      (λ (e : same_name x y ≡ true). same x y ∙ e ∙ sym (ap is_eq (subst (λ (z : Name). name_cmp x z ≡ Equal) (same_name-true x y e) (tied_itself name_cmp_total x))))
      (λ (e : same_name x y ≡ false). same x y ∙ e ∙ sym (apart_from x y e))
      (cases_Bool (same_name x y))

  -- sorted, and each once
  pub sorted_once : (names sorted : List Name) → IsPermutation names sorted → IsSortedByKey six_of (slice_cmp nat_cmp) sorted → dedup eq sorted ≡ ascending names
  sorted_once names sorted moved up =
      ascending_unique
      (dedup eq sorted)
      (ascending names)
      (ascends (dedup eq sorted) (IsStrictlySortedBy-dedup name_cmp_total ties sorted up))
      (ascending_ascends names)
      (λ z i. ascending_In z names (in_from_contains z names (Contains-permutation sorted names z (IsPermutation-sym names sorted moved) (Contains-from_dedup eq sorted z (contains_from_in z (dedup eq sorted) i)))))
      (λ z i. in_from_contains z (dedup eq sorted) (Contains-dedup equiv exact sorted z (Contains-permutation names sorted z moved (contains_from_in z names (In_ascending z names i)))))
    where
      exact : (x y : Name) → eq x y ≡ true → x ≡ y
      exact x y e = same_name-true x y (sym (same x y) ∙ e)

      equiv : IsEquivalence eq
      equiv = record {
        refl = λ x. same x x ∙ same_name-refl x;
        symm = λ x y. same x y ∙ same_name_sym x y ∙ sym (same y x);
        congr = λ x y z e. ap (λ (u : Name). eq u z) (exact x y e);
      }

-- the same of the `==` that names have
pub put_in_order : (names sorted kept : List Name) → IsPermutation names sorted → IsSortedByKey rank_of rank_cmp sorted → IsFiltered (DiffersFromLast NamePartialEq.eq-value.it) [] sorted kept → kept ≡ ascending names
put_in_order names sorted kept moved up once = dedup_is NamePartialEq.eq-value.it sorted kept once ∙ sorted_once NamePartialEq.eq-value.it eq_is names sorted moved (sorted_by_six sorted up)

-- lists of the same names have the same order
pub ascending_same : (xs ys : List Name) → ((x : Name) → Contains xs x ↔ Contains ys x) → ascending xs ≡ ascending ys
ascending_same xs ys same =
    ascending_unique
    (ascending xs)
    (ascending ys)
    (ascending_ascends xs)
    (ascending_ascends ys)
    (λ z i. ascending_In z ys (in_from_contains z ys ((same z).0 (contains_from_in z xs (In_ascending z xs i)))))
    (λ z i. ascending_In z xs (in_from_contains z xs ((same z).1 (contains_from_in z ys (In_ascending z ys i)))))
