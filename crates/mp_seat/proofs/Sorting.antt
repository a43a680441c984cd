-- All seats of a lock, sorted by their numbers, stand at their numbers.
use Rattle.std.proofs.Common.{◌≡◌, ◌⊎◌, ℕ, zero, suc, ◌+◌, ◌<◌, ◌≤◌, List, [], ◌∷◌, length, map, refl, sym, ap, ◌∙◌, subst, ⊎_elim, arith, Option, Some, slice_get}
use mathlib.Core.Logic.{dite}
use native.Mathlib.Decide.{ℕ_discrete}
use Rattle.std.specs.List.Sorted.{IsNonDecreasingBy, IsPermutation}
use Rattle.std.specs.Prelude.{slice_index_or}
use Rattle.std.proofs.lemmas.List.Sorted.{Contains-permutation, IsPermutation-sym, length_permutation}
use Rattle.std.proofs.lemmas.List.{length-map}
use Rattle.std.proofs.lemmas.Option.{none-some, same_Some, slice_get-get_or}
use Rattle.mp_seat.specs.Seats.{AreAll, AreInOrder, HaveRows, IsIdle, LockIdentity, SeatState, latest_version}

module _ {X : Type 0} where
  at_place : (xs : List X) (k : ℕ) (x : X) → slice_get xs k ≡ Some x → (k < length xs) × (slice_index_or xs k x ≡ x)
  at_place [] k x e = absurd (none-some x e)
  at_place (y ∷ xs) zero x e = (omega arith, same_Some y x e)
  at_place (y ∷ xs) (suc k) x e = let h = at_place xs k x e in (omega (arith, h.0), h.1)

  -- what stands in a list stands in it in another order
  moved : (xs ys : List X) → IsPermutation xs ys → (k : ℕ) (x : X) → slice_get xs k ≡ Some x → (j : ℕ) × (slice_get ys j ≡ Some x)
  moved xs ys p k x e =
      let at = at_place xs k x e in
      let there = Contains-permutation xs ys x p (k, at.0, at.1) in
      (there.0, slice_get-get_or ys there.0 x there.1 ∙ ap Some there.2)

-- Lists of things that have a number

module _ {X : Type 0} (number : X → ℕ) where
  -- one of these has this number
  abbrev Has : List X → ℕ → Type 0
  Has xs n = (k : ℕ) × (x : X) × (slice_get xs k ≡ Some x) × (number x ≡ n)

  -- each of so many numbers from one on
  abbrev HasEach : List X → (from many : ℕ) → Type 0
  HasEach xs from many = (n : ℕ) → from ≤ n → n < from + many → Has xs n

  fewer : (x : X) (xs : List X) → IsNonDecreasingBy number (x ∷ xs) → IsNonDecreasingBy number xs
  fewer x xs rise i j d le lt = rise (suc i) (suc j) d (omega (arith, le)) (omega (arith, lt))

  -- the first has no greater number than another
  first_is_least : (x : X) (xs : List X) → IsNonDecreasingBy number (x ∷ xs) → (k : ℕ) (y : X) → slice_get (x ∷ xs) k ≡ Some y → number x ≤ number y
  first_is_least x xs rise k y e =
      let at = at_place (x ∷ xs) k y e in
      let least = rise 0 k y (omega arith) at.0 in
      omega (arith, least, ap number at.1)

  behind : (x : X) (xs : List X) (n : ℕ) → (number x ≡ n → ⊥) → (k : ℕ) (y : X) → slice_get (x ∷ xs) k ≡ Some y → number y ≡ n → Has xs n
  behind x xs n other zero y e is = absurd (other (ap number (same_Some x y e) ∙ is))
  behind x xs n other (suc k) y e is = (k, y, e, is)

  -- where the first has the first number, the others have the others
  after_first : (x : X) (xs : List X) (from many : ℕ) → number x ≡ from → HasEach (x ∷ xs) from (suc many) → HasEach xs (from + 1) many
  after_first x xs from many is has n low high = let h = has n (omega arith) (omega arith) in behind x xs n (λ e. absurd (omega (arith, is, e))) h.0 h.1 h.2 h.3

  -- where it hasn't, they have all
  without_first : (x : X) (xs : List X) (from many : ℕ) → IsNonDecreasingBy number (x ∷ xs) → (number x ≡ from → ⊥) → HasEach (x ∷ xs) from (suc many) → HasEach xs from (suc many)
  without_first x xs from many rise other has n low high =
      let first = has from (omega arith) (omega arith) in
      let least = first_is_least x xs rise first.0 first.1 first.2 in
      let h = has n low high in
      behind x xs n (λ e. other (omega (arith, least, first.3, e, low))) h.0 h.1 h.2 h.3

  -- they are as many as these numbers, or more
  are_enough : (xs : List X) (from many : ℕ) → IsNonDecreasingBy number xs → HasEach xs from many → many ≤ length xs
  are_enough xs from zero rise has = omega arith
  are_enough [] from (suc many) rise has = let h = has from (omega arith) (omega arith) in absurd (none-some h.1 h.2)
  are_enough (x ∷ xs) from (suc many) rise has =
      dite (ℕ_discrete (number x) from)
      (λ is. let h = are_enough xs (from + 1) many (fewer x xs rise) (after_first x xs from many is has) in omega (arith, h))
      (λ other. let h = are_enough xs from (suc many) (fewer x xs rise) (without_first x xs from many rise other has) in omega (arith, h))

  -- where they are just as many, the first has the first number
  first_is_from : (x : X) (xs : List X) (from : ℕ) → IsNonDecreasingBy number (x ∷ xs) → HasEach (x ∷ xs) from (suc (length xs)) → number x ≡ from
  first_is_from x xs from rise has =
      dite (ℕ_discrete (number x) from)
      (λ is. is)
      (λ other. let h = are_enough xs from (suc (length xs)) (fewer x xs rise) (without_first x xs from (length xs) rise other has) in absurd (omega (arith, h)))

  -- and each stands at its place
  stand_in_order : (xs : List X) (from : ℕ) → IsNonDecreasingBy number xs → HasEach xs from (length xs) → (k : ℕ) (x : X) → slice_get xs k ≡ Some x → number x ≡ from + k
  stand_in_order [] from rise has k x e = absurd (none-some x e)
  stand_in_order (y ∷ xs) from rise has zero x e = omega (arith, first_is_from y xs from rise has, ap number (same_Some y x e))
  stand_in_order (y ∷ xs) from rise has (suc k) x e =
      let is = first_is_from y xs from rise has in
      let h = stand_in_order xs (from + 1) (fewer y xs rise) (after_first y xs from (length xs) is has) k x e in
      omega (arith, h)

-- Seats

module _ {R : Type 0} where
  abbrev pub number_of : SeatState R → ℕ
  number_of s = s.number

  abbrev row_of : SeatState R → Option R
  row_of s = s.row

  version_is_no_later : (seats : List (SeatState R)) (k : ℕ) (s : SeatState R) → slice_get seats k ≡ Some s → s.version ≤ latest_version seats
  version_is_no_later [] k s e = absurd (none-some s e)
  version_is_no_later (x ∷ seats) zero s e = omega (arith, ap (λ (y : SeatState R). y.version) (same_Some x s e))
  version_is_no_later (x ∷ seats) (suc k) s e = let h = version_is_no_later seats k s e in omega (arith, h)

  latest_is_no_later : (seats others : List (SeatState R)) → ((k : ℕ) (s : SeatState R) → slice_get seats k ≡ Some s → (j : ℕ) × (slice_get others j ≡ Some s)) → latest_version seats ≤ latest_version others
  latest_is_no_later [] others each = omega arith
  latest_is_no_later (x ∷ seats) others each =
      let there = each 0 x refl in
      let here = version_is_no_later others there.0 x there.1 in
      let rest = latest_is_no_later seats others (λ k. each (suc k)) in
      omega (arith, here, rest)

  row_at : (rows : List R) (seats : List (SeatState R)) → map (λ (row : R). Some row) rows ≡ map row_of seats → (k : ℕ) (s : SeatState R) → slice_get seats k ≡ Some s → slice_get rows k ≡ s.row
  row_at rows [] e k s at = absurd (none-some s at)
  row_at [] (x ∷ seats) e k s at = absurd (omega (arith, ap length e))
  row_at (row ∷ rows) (x ∷ seats) e zero s at = let here : Some row ≡ x.row = cc in here ∙ ap row_of (same_Some x s at)
  row_at (row ∷ rows) (x ∷ seats) e (suc k) s at = let rest : map (λ (row : R). Some row) rows ≡ map row_of seats = cc in row_at rows seats rest k s at

  -- two rows, by their places
  pub two_rows : (rows : List R) (a b : R) → length rows ≡ 2 → slice_get rows 0 ≡ Some a → slice_get rows 1 ≡ Some b → rows ≡ a ∷ b ∷ []
  two_rows [] a b two first second = absurd (omega arith)
  two_rows (x ∷ []) a b two first second = absurd (omega arith)
  two_rows (x ∷ y ∷ []) a b two first second = let f : x ≡ a = same_Some x a first in let s : y ≡ b = same_Some y b second in λ k. f k ∷ s k ∷ []
  two_rows (x ∷ y ∷ z ∷ rows) a b two first second = absurd (omega arith)

  -- two idle seats with the numbers 0 and 1 are all seats of a lock of two, in either order
  pub two_are_all : (lock : LockIdentity) (seats : List (SeatState R)) (a b : SeatState R) → seats ≡ a ∷ b ∷ [] → lock.seats ≡ 2 → IsIdle lock a → IsIdle lock b → ((a.number ≡ 0) × (b.number ≡ 1)) ⊎ ((a.number ≡ 1) × (b.number ≡ 0)) → AreAll lock seats
  two_are_all lock seats a b are two first second numbers = subst (AreAll lock) (sym are) (record { idle = idle; many = sym two; each = each })
    where
      idle : (k : ℕ) (s : SeatState R) → slice_get (a ∷ b ∷ []) k ≡ Some s → IsIdle lock s
      idle zero s e = subst (IsIdle lock) (same_Some a s e) first
      idle (suc zero) s e = subst (IsIdle lock) (same_Some b s e) second
      idle (suc (suc k)) s e = absurd (none-some s e)

      each : (n : ℕ) → n < lock.seats → (k : ℕ) × (s : SeatState R) × (slice_get (a ∷ b ∷ []) k ≡ Some s) × (s.number ≡ n)
      each zero l = ⊎_elim (λ (h : (a.number ≡ 0) × (b.number ≡ 1)). (0, a, refl, h.0)) (λ (h : (a.number ≡ 1) × (b.number ≡ 0)). (1, b, refl, h.1)) numbers
      each (suc zero) l = ⊎_elim (λ (h : (a.number ≡ 0) × (b.number ≡ 1)). (1, b, refl, h.1)) (λ (h : (a.number ≡ 1) × (b.number ≡ 0)). (0, a, refl, h.0)) numbers
      each (suc (suc n)) l = absurd (omega (arith, l, two))

  module _ (lock : LockIdentity) (seats sorted : List (SeatState R)) (all : AreAll lock seats) (same : IsPermutation seats sorted) (rise : IsNonDecreasingBy number_of sorted) where
    pub as_many : length sorted ≡ lock.seats
    as_many = length_permutation seats sorted same ∙ all.many

    -- sorted by their numbers, all seats of a lock are in order
    pub sorted_in_order : AreInOrder lock sorted
    sorted_in_order k s e =
        let was = moved sorted seats (IsPermutation-sym seats sorted same) k s e in
        let place = stand_in_order number_of sorted 0 rise each k s e in
        (all.idle was.0 s was.1, omega (arith, place))
      where
        each : HasEach number_of sorted 0 (length sorted)
        each n low high =
            let h = all.each n (omega (arith, high, as_many)) in
            let there = moved seats sorted same h.0 h.1 h.2 in
            (there.0, h.1, there.1, h.3)

    -- the rows of the seats in order stand at the numbers of all
    pub have_rows : (rows : List R) → map (λ (row : R). Some row) rows ≡ map row_of sorted → HaveRows rows seats
    have_rows rows e k s at =
        let there = moved seats sorted same k s at in
        let number : s.number ≡ there.0 = (sorted_in_order there.0 s there.1).1 in
        ap (λ (n : ℕ). slice_get rows n) number ∙ row_at rows sorted e there.0 s there.1

    pub many_rows : (rows : List R) → map (λ (row : R). Some row) rows ≡ map row_of sorted → length rows ≡ lock.seats
    many_rows rows e = sym (length-map rows (λ (row : R). Some row)) ∙ ap length e ∙ length-map sorted row_of ∙ as_many

    pub same_latest : latest_version sorted ≡ latest_version seats
    same_latest =
        let low = latest_is_no_later sorted seats (moved sorted seats (IsPermutation-sym seats sorted same)) in
        let high = latest_is_no_later seats sorted (moved seats sorted same) in
        omega (arith, low, high)
