-- What a list has of the items that pass a test it has in the part where they stand.
use Rattle.std.proofs.Common.{◌≡◌, ◌||◌, ℕ, zero, suc, ◌+◌, ◌<◌, ◌≤◌, Bool, true, false, cond, None, Some, List, [], ◌∷◌, All, drop, get_or, position, slice_get, take, refl, sym, ap, ◌∙◌, arith, ⊎_elim}
use Rattle.std.specs.List.{filter, list_any, position_from}
use Rattle.std.specs.Option.{option_map}
use Rattle.std.proofs.lemmas.Bool.{cases_Bool}
use Rattle.std.proofs.lemmas.Iterator.Adapters.{position_from-zero}
use Rattle.std.proofs.lemmas.List.Folds.{list_any_none}
use Rattle.std.proofs.lemmas.Option.{slice_get-get_or}

nothing_left : {X : Type 0} (f n : ℕ) → ◌≡◌ {A = List X} (take n (drop f [])) []
nothing_left zero zero = refl
nothing_left zero (suc n) = refl
nothing_left (suc f) zero = refl
nothing_left (suc f) (suc n) = refl

module _ {X : Type 0} (p : X → Bool) where
  -- those that pass are among so many from a place on
  abbrev pub OnlyWithin : ℕ → ℕ → List X → Type 0
  OnlyWithin f n xs = (i : ℕ) (x : X) → slice_get xs i ≡ Some x → p x ≡ true → (f ≤ i) × (i < f + n)

  none_pass : (f : ℕ) (xs : List X) → OnlyWithin f 0 xs → All (λ x. p x ≡ false) xs
  none_pass f xs within = λ i d l.
      ⊎_elim
      (λ (e : p (get_or xs i d) ≡ true). let at = within i (get_or xs i d) (slice_get-get_or xs i d l) e in absurd (omega arith))
      (λ (e : p (get_or xs i d) ≡ false). e)
      (cases_Bool (p (get_or xs i d)))

  first_fails : (f n : ℕ) (x : X) (xs : List X) → OnlyWithin (suc f) n (x ∷ xs) → p x ≡ false
  first_fails f n x xs within =
      ⊎_elim
      (λ (e : p x ≡ true). let at = within 0 x refl e in absurd (omega arith))
      (λ (e : p x ≡ false). e)
      (cases_Bool (p x))

  behind : (f n : ℕ) (x : X) (xs : List X) → OnlyWithin (suc f) n (x ∷ xs) → OnlyWithin f n xs
  behind f n x xs within = λ i y e passes. let at = within (suc i) y e passes in (omega arith, omega arith)

  fewer : (n : ℕ) (x : X) (xs : List X) → OnlyWithin zero (suc n) (x ∷ xs) → OnlyWithin zero n xs
  fewer n x xs within = λ i y e passes. let at = within (suc i) y e passes in (omega arith, omega arith)

  -- whether one passes
  pub any_within : (xs : List X) (f n : ℕ) → OnlyWithin f n xs → list_any p (take n (drop f xs)) ≡ list_any p xs
  any_within [] f n within = ap (list_any p) (nothing_left f n)
  any_within (x ∷ xs) zero zero within = sym (list_any_none p (x ∷ xs) (none_pass zero (x ∷ xs) within))
  any_within (x ∷ xs) zero (suc n) within = ap (λ b. p x || b) (any_within xs zero n (fewer n x xs within))
  any_within (x ∷ xs) (suc f) n within = rw (first_fails f n x xs within) (any_within xs f n (behind f n x xs within))

  none_kept : (xs : List X) → All (λ x. p x ≡ false) xs → filter p xs ≡ []
  none_kept [] fail = refl
  none_kept (x ∷ xs) fail = let here : p x ≡ false = fail 0 x (omega arith) in rw here (none_kept xs (λ k d l. fail (suc k) d (omega arith)))

  -- those that pass
  pub kept_within : (xs : List X) (f n : ℕ) → OnlyWithin f n xs → filter p (take n (drop f xs)) ≡ filter p xs
  kept_within [] f n within = ap (filter p) (nothing_left f n)
  kept_within (x ∷ xs) zero zero within = sym (none_kept (x ∷ xs) (none_pass zero (x ∷ xs) within))
  kept_within (x ∷ xs) zero (suc n) within = ap (λ (ys : List X). cond (p x) (x ∷ ys) ys) (kept_within xs zero n (fewer n x xs within))
  kept_within (x ∷ xs) (suc f) n within = rw (first_fails f n x xs within) (kept_within xs f n (behind f n x xs within))

  none_from : (i : ℕ) (xs : List X) → All (λ x. p x ≡ false) xs → position_from p i xs ≡ None
  none_from i [] fail = refl
  none_from i (x ∷ xs) fail = let here : p x ≡ false = fail 0 x (omega arith) in rw here (none_from (i + 1) xs (λ k d l. fail (suc k) d (omega arith)))

  from_within : (i : ℕ) (xs : List X) (f n : ℕ) → OnlyWithin f n xs → position_from p (f + i) (take n (drop f xs)) ≡ position_from p i xs
  from_within i [] f n within = ap (position_from p (f + i)) (nothing_left f n)
  from_within i (x ∷ xs) zero zero within = sym (none_from i (x ∷ xs) (none_pass zero (x ∷ xs) within))
  from_within i (x ∷ xs) zero (suc n) within =
      let same : zero + i ≡ i = omega arith in
      let more : zero + (i + 1) ≡ i + 1 = omega arith in
      let rest = rw more at (from_within (i + 1) xs zero n (fewer n x xs within)) in
      rw same (ap (λ o. cond (p x) (Some i) o) rest)
  from_within i (x ∷ xs) (suc f) n within =
      let same : suc f + i ≡ f + (i + 1) = omega arith in
      rw (first_fails f n x xs within, same) (from_within (i + 1) xs f n (behind f n x xs within))

  shifted : (f i : ℕ) (xs : List X) → option_map (λ k. f + k) (position_from p i xs) ≡ position_from p (f + i) xs
  shifted f i [] = refl
  shifted f i (x ∷ xs) =
      let next : f + i + 1 ≡ f + (i + 1) = omega arith in
      ⊎_elim
      (λ (e : p x ≡ true). rw e refl)
      (λ (e : p x ≡ false). rw (e, next) (shifted f (i + 1) xs))
      (cases_Bool (p x))

  -- the first that passes
  pub place_within : (xs : List X) (f n : ℕ) → OnlyWithin f n xs → option_map (λ k. f + k) (position p (take n (drop f xs))) ≡ position p xs
  place_within xs f n within =
      ap (option_map (λ k. f + k)) (position_from-zero p (take n (drop f xs)))
      ∙ (shifted f 0 (take n (drop f xs)) ∙ (from_within 0 xs f n within ∙ sym (position_from-zero p xs)))
