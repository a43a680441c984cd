-- In a sorted list the elements of one rank stand together: behind all that come before it, and in front of all that come after it.
use Rattle.std.proofs.Common.{◌≡◌, ℕ, ◌+◌, ◌<◌, ◌≤◌, Bool, true, false, cond, nat_lt, List, [], ◌∷◌, ◌++◌, filter, drop, take, get_or, length, All, length-drop, length-take, refl, sym, ap, ◌∙◌, subst, append-nil, arith}
use Rattle.std.proofs.lemmas.Bool.{false≢true}
use Rattle.std.proofs.lemmas.List.{get_or-drop, get_or-take, take-append-drop}
use Rattle.std.proofs.lemmas.List.Elements.{filter-append, recursion_from_All}
use Rattle.std.proofs.lemmas.List.Sorted.{IsPartitionedBy-leb, IsPartitionedBy-ltb, searchable_from_sorted}
use Rattle.std.specs.Bool.{nat_le}
use Rattle.std.specs.Cmp.{IsTotalOrder}
use Rattle.std.specs.List.{AllByRecursion, AllWithin}
use Rattle.std.specs.List.Sorted.{IsPartitionPoint, IsPartitionedBy, IsSortedByKey}
use Rattle.std.specs.Ordering.{is_eq, is_le, is_lt, ordering_index}
use Rattle.std.specs.declared.cmp.Ordering.{Ordering}
use Rattle.std.specs.declared.cmp.Ordering.TheVariants.{Less, Equal, Greater}

-- What a filter keeps of a list that is cut in three

module _ {X : Type 0} (p : X → Bool) where
  none_pass : (xs : List X) → AllByRecursion (λ x. p x ≡ false) xs → filter p xs ≡ []
  none_pass [] h = refl
  none_pass (x ∷ xs) h = ap (λ (b : Bool). cond b (x ∷ filter p xs) (filter p xs)) h.0 ∙ none_pass xs h.1

  all_pass : (xs : List X) → AllByRecursion (λ x. p x ≡ true) xs → filter p xs ≡ xs
  all_pass [] h = refl
  all_pass (x ∷ xs) h = ap (λ (b : Bool). cond b (x ∷ filter p xs) (filter p xs)) h.0 ∙ ap (λ (ys : List X). x ∷ ys) (all_pass xs h.1)

  cut : (n : ℕ) (xs : List X) → filter p xs ≡ filter p (take n xs) ++ filter p (drop n xs)
  cut n xs = ap (filter p) (sym (take-append-drop n xs)) ∙ filter-append p (take n xs) (drop n xs)

  front : (b : Bool) (n : ℕ) (xs : List X) → n ≤ length xs → AllWithin (λ x. p x ≡ b) xs 0 n → All (λ x. p x ≡ b) (take n xs)
  front b n xs l h = λ i d m. let e = length-take n xs in let near : i < n = omega arith in subst (λ (x : X). p x ≡ b) (sym (get_or-take n xs i d near)) (h i d (omega arith) near)

  rest : (b : Bool) (n : ℕ) (xs : List X) → AllWithin (λ x. p x ≡ b) xs n (length xs) → All (λ x. p x ≡ b) (drop n xs)
  rest b n xs h = λ i d m. let e = length-drop n xs in subst (λ (x : X). p x ≡ b) (sym (get_or-drop n xs i d)) (h (n + i) d (omega arith) (omega arith))

  filter_run : (xs : List X) (n m : ℕ) → n ≤ length xs → m ≤ length (drop n xs) → AllWithin (λ x. p x ≡ false) xs 0 n → AllWithin (λ x. p x ≡ true) (drop n xs) 0 m → AllWithin (λ x. p x ≡ false) (drop n xs) m (length (drop n xs)) → filter p xs ≡ take m (drop n xs)
  filter_run xs n m l k before within after =
      let later = drop n xs in
      let ahead = none_pass (take n xs) (recursion_from_All (λ x. p x ≡ false) (take n xs) (front false n xs l before)) in
      let kept = all_pass (take m later) (recursion_from_All (λ x. p x ≡ true) (take m later) (front true m later k within)) in
      let behind = none_pass (drop m later) (recursion_from_All (λ x. p x ≡ false) (drop m later) (rest false m later after)) in
      cut n xs
      ∙ ap (λ (ys : List X). ys ++ filter p later) ahead
      ∙ cut m later
      ∙ ap (λ (ys : List X). filter p (take m later) ++ ys) behind
      ∙ append-nil (filter p (take m later))
      ∙ kept

-- What an answer of a comparison says

index_before : (r : Ordering) → nat_lt (ordering_index r) 1 ≡ is_lt r
index_before Less = refl
index_before Equal = refl
index_before Greater = refl

index_upto : (r : Ordering) → nat_le (ordering_index r) 1 ≡ is_le r
index_upto Less = refl
index_upto Equal = refl
index_upto Greater = refl

not_before : (r : Ordering) → is_lt r ≡ true → is_eq r ≡ false
not_before Less h = refl
not_before Equal h = absurd (false≢true h)
not_before Greater h = refl

between : (r : Ordering) → is_lt r ≡ false → is_le r ≡ true → is_eq r ≡ true
between Less h k = absurd (false≢true (sym h))
between Equal h k = refl
between Greater h k = absurd (false≢true k)

not_after : (r : Ordering) → is_le r ≡ false → is_eq r ≡ false
not_after Less h = refl
not_after Equal h = absurd (false≢true (sym h))
not_after Greater h = refl

-- The run of a rank

module _ {K : Type 0} {R : K → K → Ordering} (o : IsTotalOrder R) {X : Type 0} (key : X → K) where
  -- the end of a sorted list is sorted
  pub sorted_drop : (n : ℕ) (xs : List X) → IsSortedByKey key R xs → IsSortedByKey key R (drop n xs)
  sorted_drop n xs up k d low l =
      let e = length-drop n xs in
      let next : n + (k + 1) ≡ n + k + 1 = omega arith in
      let here = up (n + k) d (omega arith) (omega arith) in
      subst
      (λ (x : X). is_lt (R (key x) (key (get_or (drop n xs) k d))) ≡ false)
      (sym (get_or-drop n xs (k + 1) d ∙ ap (λ (i : ℕ). get_or xs i d) next))
      (subst (λ (x : X). is_lt (R (key (get_or xs (n + k + 1) d)) (key x)) ≡ false) (sym (get_or-drop n xs k d)) here)

  module _ (m : K) where
    abbrev pub goes_before : X → Bool
    goes_before x = is_lt (R (key x) m)

    abbrev pub goes_upto : X → Bool
    goes_upto x = is_le (R (key x) m)

    -- what comes before the rank stands in front
    pub parted_before : (xs : List X) → IsSortedByKey key R xs → IsPartitionedBy goes_before xs
    parted_before xs up i j d l k h =
        sym (index_before (R (key (get_or xs i d)) m))
        ∙ IsPartitionedBy-ltb (λ x. ordering_index (R (key x) m)) xs 1 (searchable_from_sorted o key xs m up) i j d l k (index_before (R (key (get_or xs j d)) m) ∙ h)

    -- and so does what comes before it or is of it
    pub parted_upto : (xs : List X) → IsSortedByKey key R xs → IsPartitionedBy goes_upto xs
    parted_upto xs up i j d l k h =
        sym (index_upto (R (key (get_or xs i d)) m))
        ∙ IsPartitionedBy-leb (λ x. ordering_index (R (key x) m)) xs 1 (searchable_from_sorted o key xs m up) i j d l k (index_upto (R (key (get_or xs j d)) m) ∙ h)

    -- the run of the rank is what is of it
    pub run_is :
        (xs : List X) (n k : ℕ)
        → n ≤ length xs
        → k ≤ length (drop n xs)
        → IsPartitionPoint (λ x. goes_before x ≡ true) (λ x. goes_before x ≡ false) xs n
        → IsPartitionPoint (λ x. goes_upto x ≡ true) (λ x. goes_upto x ≡ false) (drop n xs) k
        → filter (λ x. is_eq (R (key x) m)) xs ≡ take k (drop n xs)
    run_is xs n k l i before upto =
        filter_run
        (λ x. is_eq (R (key x) m))
        xs
        n
        k
        l
        i
        (λ a d low high. not_before (R (key (get_or xs a d)) m) (before.0 a d low high))
        (λ a d low high.
        let e = length-drop n xs in
        let no_earlier = subst (λ (x : X). goes_before x ≡ false) (sym (get_or-drop n xs a d)) (before.1 (n + a) d (omega arith) (omega arith)) in
        between (R (key (get_or (drop n xs) a d)) m) no_earlier (upto.0 a d low high))
        (λ a d low high. not_after (R (key (get_or (drop n xs) a d)) m) (upto.1 a d low high))
