-- Digits that begin a text.
use Rattle.std.proofs.Common.{◌≡◌, ◌+◌, ◌*◌, ◌%◌, ◌^◌, ◌<◌, ◌≤◌, ℕ, true, List, length, sym, subst, take, arith, get_or-take, length-take}
use Rattle.std.specs.Int.{IsInRange}
use Rattle.mp_text.specs.Numbers.{is_number}
use Rattle.mp_text.proofs.NumberLemmas.{DigitsBelow, is_number-below}

-- a digit more of a small number wraps nothing
pub unwrapped : (value digit : ℕ) → value < 10 ^ 18 → digit ≤ 9 → (value * 10 % 2 ^ 64 + digit) % 2 ^ 64 ≡ value * 10 + digit
unwrapped value digit small low = omega (arith, small, low)

-- the first digits, of which there is one at least, are a number
pub first_digits : (text : List ℕ) (i : ℕ) → DigitsBelow text i → 0 < i → i ≤ length text → is_number (take i text) ≡ true
first_digits text i digits some within =
    let short = length-take i text in
    is_number-below (take i text) (omega (arith, short, some, within))
    (λ k low. subst (IsInRange 48 57) (sym (get_or-take i text k 0 (omega (arith, short, low)))) (digits k (omega (arith, short, low))))
