-- A list whose elements have numbers that never fall, cut behind those of the first number.
use Rattle.std.proofs.Common.{◌≡◌, ◌≤◌, ◌<◌, ◌+◌, ◌==◌, ◌||◌, ℕ, suc, Bool, true, false, cond, not, List, [], ◌∷◌, All, None, Some, drop, filter, length, map, take, refl, sym, ap, ◌∙◌, arith}
use Rattle.std.specs.List.{list_any, prefix_len, slice_get, take_while}
use Rattle.std.specs.List.Sorted.{IsNonDecreasingBy}
use Rattle.std.proofs.lemmas.Bool.{eq-eqb, eqb-true, false≢true, ne_eqb}
use Rattle.std.proofs.lemmas.List.Elements.{All-cons, All-head, All-nil, All-tail, All-weaker}
use Rattle.std.proofs.lemmas.List.Sums.{take_while-cons}
use Rattle.mp_fold.proofs.Ascending.{has}
use Rattle.mp_fold.specs.Order.{BeginsAt}

-- the list from the first element on that fails the test
abbrev pub after_while : {X : Type 0} → (X → Bool) → List X → List X
after_while p [] = []
after_while p (x ∷ xs) = cond (p x) (after_while p xs) (x ∷ xs)

module _ {X : Type 0} (p : X → Bool) where
  -- what stands behind the first ones that pass
  pub after_is : (xs : List X) → drop (prefix_len p xs) xs ≡ after_while p xs
  after_is [] = refl
  after_is (x ∷ xs) = by (p x) (after_is xs)
    where
      by : (b : Bool) → drop (prefix_len p xs) xs ≡ after_while p xs → drop (cond b (1 + prefix_len p xs) 0) (x ∷ xs) ≡ cond b (after_while p xs) (x ∷ xs)
      by true rest = ap (λ n. drop n (x ∷ xs)) (let e : 1 + prefix_len p xs ≡ suc (prefix_len p xs) = omega arith in e) ∙ rest
      by false rest = refl

  pub All-after : (P : X → Type 0) (xs : List X) → All P xs → All P (after_while p xs)
  All-after P [] h = h
  All-after P (x ∷ xs) h = by (p x) (All-after P xs (All-tail P x xs h))
    where
      by : (b : Bool) → All P (after_while p xs) → All P (cond b (after_while p xs) (x ∷ xs))
      by true rest = rest
      by false rest = h

  -- whether there is one that passes
  pub some_passes : (xs : List X) → not (length (filter p xs) == 0) ≡ list_any p xs
  some_passes [] = refl
  some_passes (x ∷ xs) = by (p x) (some_passes xs)
    where
      by : (b : Bool) → not (length (filter p xs) == 0) ≡ list_any p xs → not (length (cond b (x ∷ filter p xs) (filter p xs)) == 0) ≡ (b || list_any p xs)
      by true rest = ap not (ne_eqb (length (x ∷ filter p xs)) 0 (λ e. omega arith))
      by false rest = rest

module _ {X : Type 0} (f : X → ℕ) where
  pub rises_head : (x : X) (xs : List X) → IsNonDecreasingBy f (x ∷ xs) → All (λ y. f x ≤ f y) xs
  rises_head x xs h = λ k d low. h 0 (suc k) d (omega arith) (omega arith)

  pub rises_tail : (x : X) (xs : List X) → IsNonDecreasingBy f (x ∷ xs) → IsNonDecreasingBy f xs
  rises_tail x xs h = λ i j d le low. h (suc i) (suc j) d (omega arith) (omega arith)

  module _ (n : ℕ) where
    pub rises_after : (xs : List X) → IsNonDecreasingBy f xs → IsNonDecreasingBy f (after_while (λ x. f x == n) xs)
    rises_after [] h = h
    rises_after (x ∷ xs) h = by (f x == n) (rises_after xs (rises_tail x xs h))
      where
        by : (b : Bool) → IsNonDecreasingBy f (after_while (λ y. f y == n) xs) → IsNonDecreasingBy f (cond b (after_while (λ y. f y == n) xs) (x ∷ xs))
        by true rest = rest
        by false rest = h

    -- those of other numbers stay
    pub others_after : (u : ℕ) → (u ≡ n → ⊥) → (xs : List X) → filter (λ x. f x == u) (after_while (λ x. f x == n) xs) ≡ filter (λ x. f x == u) xs
    others_after u other [] = refl
    others_after u other (x ∷ xs) = by (f x == n) refl (others_after u other xs)
      where
        by : (b : Bool) → (f x == n) ≡ b → filter (λ y. f y == u) (after_while (λ y. f y == n) xs) ≡ filter (λ y. f y == u) xs → filter (λ y. f y == u) (cond b (after_while (λ y. f y == n) xs) (x ∷ xs)) ≡ filter (λ y. f y == u) (x ∷ xs)
        by true e rest = rw (ne_eqb (f x) u (λ s. other (sym s ∙ eqb-true (f x) n e))) rest
        by false e rest = refl

    -- which numbers are there: n, and those behind
    pub numbers_after : (u : ℕ) (xs : List X) → (has u (map f xs) || n == u) ≡ (n == u || has u (map f (after_while (λ x. f x == n) xs)))
    numbers_after u [] = ends (n == u)
      where
        ends : (b : Bool) → b ≡ (b || false)
        ends true = refl
        ends false = refl
    numbers_after u (x ∷ xs) = by (f x == n) refl (numbers_after u xs)
      where
        both : (b h i : Bool) → (h || b) ≡ (b || i) → ((b || h) || b) ≡ (b || i)
        both true h i e = refl
        both false h i e = e

        turned : (a b h : Bool) → ((a || h) || b) ≡ (b || (a || h))
        turned true true h = refl
        turned true false h = refl
        turned false true true = refl
        turned false true false = refl
        turned false false true = refl
        turned false false false = refl

        by : (b : Bool) → (f x == n) ≡ b → (has u (map f xs) || n == u) ≡ (n == u || has u (map f (after_while (λ y. f y == n) xs)))
            → ((f x == u || has u (map f xs)) || n == u) ≡ (n == u || has u (map f (cond b (after_while (λ y. f y == n) xs) (x ∷ xs))))
        by true e rest = rw (eqb-true (f x) n e) (both (n == u) (has u (map f xs)) (has u (map f (after_while (λ y. f y == n) xs))) rest)
        by false e rest = turned (f x == u) (n == u) (has u (map f xs))

    pub numbers_begin : (u : ℕ) (xs : List X) → BeginsAt f xs n → has u (map f xs) ≡ (has u (map f xs) || n == u)
    numbers_begin u [] b = absurd b
    numbers_begin u (x ∷ xs) b = rw b (by (n == u) (has u (map f xs)))
      where
        by : (b h : Bool) → (b || h) ≡ ((b || h) || b)
        by true h = refl
        by false true = refl
        by false false = refl

    -- none above n is one of n
    pub none_above : (xs : List X) → All (λ x. n < f x) xs → filter (λ x. f x == n) xs ≡ []
    none_above [] h = refl
    none_above (x ∷ xs) h =
        let low : n < f x = All-head (λ y. n < f y) x xs h in
        rw (ne_eqb (f x) n (λ e. omega arith)) (none_above xs (All-tail (λ y. n < f y) x xs h))

    above : (x : X) → n ≤ f x → (f x == n) ≡ false → n < f x
    above x low e = omega (arith, (λ (s : f x ≡ n). false≢true (sym e ∙ eq-eqb (f x) n s)))

    -- where none is below n, those of n stand in front
    pub front_is : (xs : List X) → All (λ x. n ≤ f x) xs → IsNonDecreasingBy f xs → take_while (λ x. f x == n) xs ≡ filter (λ x. f x == n) xs
    front_is [] low h = refl
    front_is (x ∷ xs) low h =
        take_while-cons (λ y. f y == n) x xs ∙ by (f x == n) refl (front_is xs (All-tail (λ y. n ≤ f y) x xs low) (rises_tail x xs h))
      where
        by : (b : Bool) → (f x == n) ≡ b → take_while (λ y. f y == n) xs ≡ filter (λ y. f y == n) xs → cond b (x ∷ take_while (λ y. f y == n) xs) [] ≡ cond b (x ∷ filter (λ y. f y == n) xs) (filter (λ y. f y == n) xs)
        by true e rest = ap (λ (ys : List X). x ∷ ys) rest
        by false e rest =
            let first : n < f x = above x (All-head (λ y. n ≤ f y) x xs low) e in
            sym (none_above xs (All-weaker (λ (y : X). f x ≤ f y) (λ (y : X). n < f y) (λ y le. omega arith) xs (rises_head x xs h)))

    -- and all behind are above n
    pub above_after : (xs : List X) → All (λ x. n ≤ f x) xs → IsNonDecreasingBy f xs → All (λ x. n < f x) (after_while (λ x. f x == n) xs)
    above_after [] low h = All-nil (λ (x : X). n < f x)
    above_after (x ∷ xs) low h = by (f x == n) refl (above_after xs (All-tail (λ y. n ≤ f y) x xs low) (rises_tail x xs h))
      where
        by : (b : Bool) → (f x == n) ≡ b → All (λ y. n < f y) (after_while (λ y. f y == n) xs) → All (λ y. n < f y) (cond b (after_while (λ y. f y == n) xs) (x ∷ xs))
        by true e rest = rest
        by false e rest =
            let first : n < f x = above x (All-head (λ y. n ≤ f y) x xs low) e in
            All-cons (λ (y : X). n < f y) x xs first (All-weaker (λ (y : X). f x ≤ f y) (λ (y : X). n < f y) (λ y le. omega arith) xs (rises_head x xs h))

-- the list is cut behind those of this number at its front
pub record IsCut {X : Type 0} (f : X → ℕ) (n : ℕ) (xs front back : List X) : Type 0 where
  pub in_front : front ≡ take_while (λ x. f x == n) xs
  pub behind : back ≡ after_while (λ x. f x == n) xs

pub cut_at : {X : Type 0} {f : X → ℕ} {n : ℕ} {xs front back : List X} {i : ℕ} → i ≡ prefix_len (λ x. f x == n) xs → front ≡ take i xs → back ≡ drop i xs → IsCut f n xs front back
cut_at {f = f} {n = n} {xs = xs} is fore aft = record {
  in_front = fore ∙ ap (λ m. take m xs) is;
  behind = aft ∙ ap (λ m. drop m xs) is ∙ after_is (λ x. f x == n) xs;
}

module _ {X : Type 0} (f : X → ℕ) (x : X) where
  -- what the first element says of the others
  pub begins : (xs : List X) → slice_get xs 0 ≡ Some x → BeginsAt f xs (f x)
  begins [] e = absurd (cc)
  begins (y ∷ ys) e = let same : y ≡ x = cc in ap f same

  pub first_is_least : (xs : List X) → slice_get xs 0 ≡ Some x → IsNonDecreasingBy f xs → (n : ℕ) → n ≤ f x → All (λ y. n ≤ f y) xs
  first_is_least [] e up n low = All-nil (λ (y : X). n ≤ f y)
  first_is_least (y ∷ ys) e up n low =
      let same : y ≡ x = cc in
      let first : n ≤ f y = omega (arith, ap f same) in
      All-cons (λ (z : X). n ≤ f z) y ys first (All-weaker (λ (z : X). f y ≤ f z) (λ (z : X). n ≤ f z) (λ z le. omega arith) ys (rises_head f y ys up))

-- without a first element there is none
pub nothing_first : {X : Type 0} (xs : List X) → slice_get xs 0 ≡ None → xs ≡ []
nothing_first [] e = refl
nothing_first (x ∷ xs) e = absurd (cc)
