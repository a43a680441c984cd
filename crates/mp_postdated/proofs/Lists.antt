-- Keys in order: one put at its place, and one taken out.
use Rattle.std.proofs.Common.{◌≡◌, ◌∙◌, IsPermutation, Bool, true, false, not, ◌||◌, cond, List, [], ◌∷◌, refl, sym, ap, filter}
use Rattle.std.proofs.lemmas.Bool.{false≢true}
use Rattle.std.proofs.lemmas.Cmp.{alike_right}
use Rattle.std.proofs.lemmas.List.Sorted.{IsPermutation-cons, IsPermutation-middle, IsPermutation-refl, IsPermutation-sym, IsPermutation-trans}
use Rattle.std.proofs.lemmas.Map.Keys.{sorted_head, sorted_tail}
use Rattle.std.specs.BTreeSet.{insert_key}
use Rattle.std.specs.Cmp.{IsTotalOrder}
use Rattle.std.specs.List.{AllByRecursion, list_any}
use Rattle.std.specs.List.Sorted.{IsStrictlySortedBy}
use Rattle.std.specs.Ordering.{eq_by_cmp, is_eq, match_ordering, ordering_reverse}
use Rattle.std.specs.Set.{remove_key}
use Rattle.std.specs.declared.cmp.Ordering.{Ordering}
use Rattle.std.specs.declared.cmp.Ordering.TheVariants.{Less, Equal, Greater}

or_again : (a b : Bool) → (a || b) ≡ (a || (a || b))
or_again true b = refl
or_again false b = refl

or_swapped : (a b c : Bool) → (a || (b || c)) ≡ (b || (a || c))
or_swapped true true c = refl
or_swapped true false c = refl
or_swapped false true c = refl
or_swapped false false c = refl

module _ {K : Type 0} {R : K → K → Ordering} (o : IsTotalOrder R) (q w : K) where
  -- the same, by where the key stands against the first
  any_placed : (x : K) (xs ys : List K) (r : Ordering) → R w x ≡ r → list_any (eq_by_cmp R q) ys ≡ (eq_by_cmp R q w || list_any (eq_by_cmp R q) xs) → list_any (eq_by_cmp R q) (match_ordering r (w ∷ x ∷ xs) (x ∷ xs) (x ∷ ys)) ≡ (eq_by_cmp R q w || list_any (eq_by_cmp R q) (x ∷ xs))
  any_placed x xs ys Less h rest = refl
  any_placed x xs ys Equal h rest = rw (alike_right o w x q h) (or_again (eq_by_cmp R q x) (list_any (eq_by_cmp R q) xs))
  any_placed x xs ys Greater h rest = rw rest (or_swapped (eq_by_cmp R q x) (eq_by_cmp R q w) (list_any (eq_by_cmp R q) xs))

  -- a key put at its place is found, and so is each that was there
  pub any-insert_key : (xs : List K) → list_any (eq_by_cmp R q) (insert_key R xs w) ≡ (eq_by_cmp R q w || list_any (eq_by_cmp R q) xs)
  any-insert_key [] = refl
  any-insert_key (x ∷ xs) = any_placed x xs (insert_key R xs w) (R w x) refl (any-insert_key xs)

module _ {K : Type 0} {R : K → K → Ordering} (o : IsTotalOrder R) (w : K) where
  below_all : (x : K) (xs : List K) → R w x ≡ Less → AllByRecursion (λ y. R x y ≡ Less) xs → AllByRecursion (λ y. R w y ≡ Less) xs
  below_all x [] e h = tt
  below_all x (y ∷ ys) e h = (o.trans w x y e h.0, below_all x ys e h.1)

  all_by : (P : K → Type 0) (x : K) (xs ys : List K) (r : Ordering) → AllByRecursion P (x ∷ xs) → P w → AllByRecursion P ys → AllByRecursion P (match_ordering r (w ∷ x ∷ xs) (x ∷ xs) (x ∷ ys))
  all_by P x xs ys Less h p rest = (p, h)
  all_by P x xs ys Equal h p rest = h
  all_by P x xs ys Greater h p rest = (h.0, rest)

  all_placed : (P : K → Type 0) (xs : List K) → AllByRecursion P xs → P w → AllByRecursion P (insert_key R xs w)
  all_placed P [] h p = (p, tt)
  all_placed P (x ∷ xs) h p = all_by P x xs (insert_key R xs w) (R w x) h p (all_placed P xs h.1 p)

  ascend_by : (x : K) (xs : List K) (r : Ordering) → R w x ≡ r → IsStrictlySortedBy R (x ∷ xs) → IsStrictlySortedBy R (insert_key R xs w) → IsStrictlySortedBy R (match_ordering r (w ∷ x ∷ xs) (x ∷ xs) (x ∷ insert_key R xs w))
  unfolding IsStrictlySortedBy
  ascend_by x xs Less e s rest = ((e, below_all x xs e s.0), s)
  ascend_by x xs Equal e s rest = s
  ascend_by x xs Greater e s rest = (all_placed (λ y. R x y ≡ Less) xs s.0 (o.antisymm x w ∙ ap ordering_reverse e), rest)

  -- ascending keys ascend with one more put at its place
  pub ascend-insert_key : (xs : List K) → IsStrictlySortedBy R xs → IsStrictlySortedBy R (insert_key R xs w)
  unfolding IsStrictlySortedBy
  ascend-insert_key [] s = (tt, tt)
  ascend-insert_key (x ∷ xs) s = ascend_by x xs (R w x) refl s (ascend-insert_key xs s.1)

  permuted_by : (x : K) (xs ys : List K) (r : Ordering) → (is_eq r || list_any (eq_by_cmp R w) xs) ≡ false → (list_any (eq_by_cmp R w) xs ≡ false → IsPermutation (w ∷ xs) ys) → IsPermutation (w ∷ x ∷ xs) (match_ordering r (w ∷ x ∷ xs) (x ∷ xs) (x ∷ ys))
  permuted_by x xs ys Less new rest = IsPermutation-refl (w ∷ x ∷ xs)
  permuted_by x xs ys Equal new rest = absurd (false≢true (sym new))
  permuted_by x xs ys Greater new rest =
      IsPermutation-trans (w ∷ x ∷ xs) (x ∷ w ∷ xs) (x ∷ ys)
      (IsPermutation-sym (x ∷ w ∷ xs) (w ∷ x ∷ xs) (IsPermutation-middle (x ∷ []) w xs))
      (IsPermutation-cons x (w ∷ xs) ys (rest new))

  -- a new key is one more
  pub permuted-insert_key : (xs : List K) → list_any (eq_by_cmp R w) xs ≡ false → IsPermutation (w ∷ xs) (insert_key R xs w)
  permuted-insert_key [] new = IsPermutation-refl (w ∷ [])
  permuted-insert_key (x ∷ xs) new = permuted_by x xs (insert_key R xs w) (R w x) new (λ e. permuted-insert_key xs e)

-- a filter that each element passes keeps the list
filter_all : {X : Type 0} (p : X → Bool) (xs : List X) → AllByRecursion (λ x. p x ≡ true) xs → filter p xs ≡ xs
filter_all p [] h = refl
filter_all p (x ∷ xs) h = rw h.0 (ap (λ (ys : List _). x ∷ ys) (filter_all p xs h.1))

module _ {K : Type 0} {R : K → K → Ordering} (o : IsTotalOrder R) (q : K) where
  -- keys above one that equals the query aren't equal to it
  none_above : (x : K) (xs : List K) → R q x ≡ Equal → AllByRecursion (λ y. R x y ≡ Less) xs → AllByRecursion (λ y. not (eq_by_cmp R q y) ≡ true) xs
  none_above x [] e h = tt
  none_above x (y ∷ ys) e h = (rw (o.congr q x y e, h.0) refl, none_above x ys e h.1)

  removed : (x : K) (xs : List K) (r : Ordering) → R q x ≡ r → AllByRecursion (λ y. R x y ≡ Less) xs → remove_key (eq_by_cmp R q) xs ≡ filter (λ y. not (eq_by_cmp R q y)) xs → cond (is_eq r) xs (x ∷ remove_key (eq_by_cmp R q) xs) ≡ cond (not (is_eq r)) (x ∷ filter (λ y. not (eq_by_cmp R q y)) xs) (filter (λ y. not (eq_by_cmp R q y)) xs)
  removed x xs Less e h rest = ap (λ (ys : List K). x ∷ ys) rest
  removed x xs Equal e h rest = sym (filter_all (λ y. not (eq_by_cmp R q y)) xs (none_above x xs e h))
  removed x xs Greater e h rest = ap (λ (ys : List K). x ∷ ys) rest

  -- of ascending keys, the removal of one leaves the others
  pub remove_key-is_filter : (xs : List K) → IsStrictlySortedBy R xs → remove_key (eq_by_cmp R q) xs ≡ filter (λ y. not (eq_by_cmp R q y)) xs
  remove_key-is_filter [] s = refl
  remove_key-is_filter (x ∷ xs) s = removed x xs (R q x) refl (sorted_head R x xs s) (remove_key-is_filter xs (sorted_tail R x xs s))
