-- What holds of each item of a list at its place.
use Rattle.std.proofs.Common.{◌≡◌, ℕ, zero, suc, ◌<◌, ◌≤◌, List, [], ◌∷◌, ◌++◌, None, Some, arith, get_or, length, subst, ⊎_elim}
use Rattle.std.specs.Prelude.{slice_get}
use Rattle.std.proofs.lemmas.Option.{slice_get_cases}

-- within a list there is an item
pub some_at : {X : Type 0} (xs : List X) (w : ℕ) → w < length xs → (x : X) × (slice_get xs w ≡ Some x)
some_at {X} xs w l = ⊎_elim (λ (h : (x : X) × (w < length xs) × (slice_get xs w ≡ Some x) × (get_or xs w x ≡ x)). (h.0, h.2)) (λ (h : (length xs ≤ w) × (slice_get xs w ≡ None)). absurd (omega (arith, h.0))) (slice_get_cases xs w).1

some_is : {X : Type 0} (x y : X) → Some x ≡ Some y → x ≡ y
some_is x y e = cc

-- what holds of each element at its place, and of the new one behind them, holds of all
pub push_all : {X : Type 0} (P : ℕ → X → Type 0) (xs : List X) (x : X) → ((i : ℕ) (y : X) → slice_get xs i ≡ Some y → P i y) → P (length xs) x → (i : ℕ) (y : X) → slice_get (xs ++ x ∷ []) i ≡ Some y → P i y
push_all P [] x h here zero y e = subst (P 0) (some_is x y e) here
push_all P [] x h here (suc i) y e = absurd (cc)
push_all P (z ∷ xs) x h here zero y e = h zero y e
push_all P (z ∷ xs) x h here (suc i) y e = push_all (λ n. P (suc n)) xs x (λ j a f. h (suc j) a f) here i y e
