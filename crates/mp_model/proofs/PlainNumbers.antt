-- The digits of a number are plain: none is a bar or a line feed.
use Rattle.std.proofs.Common.{◌≡◌, ◌^◌, ◌<◌, ◌≤◌, ◌==◌, ℕ, false, List, [], ◌∷◌, All, arith}
use Rattle.std.specs.Fmt.{decimal}
use Rattle.std.specs.Str.Parse.{AllDigits}
use Rattle.std.proofs.lemmas.Bool.{ne_eqb}
use Rattle.std.proofs.lemmas.Fmt.{decimal_is_IsNumeral}
use Rattle.std.proofs.lemmas.List.Elements.{All-cons, All-nil, All-weaker}
use Rattle.std.proofs.lemmas.Str.Parse.{digit_from_value}
use Rattle.mp_model.specs.Plain.{IsPlain}

-- the byte of a digit
pub record IsDigit (b : ℕ) : Type 0 where
  pub low : 48 ≤ b
  pub high : b ≤ 57

digits_are : (ds : List ℕ) → AllDigits 10 ds → All IsDigit ds
digits_are [] h = All-nil IsDigit
digits_are (d ∷ ds) h =
    let range = digit_from_value d h.0 in All-cons IsDigit d ds (record { low = omega (arith, range); high = omega (arith, range) }) (digits_are ds h.1)

-- a number is written in such bytes
pub digits_in : (n : ℕ) → n < 2 ^ 64 → All IsDigit (decimal n)
digits_in n low = digits_are (decimal n) (decimal_is_IsNumeral n low).0.1

plain_digit : (b : ℕ) → IsDigit b → ((b == 124) ≡ false) × ((b == 10) ≡ false)
plain_digit b h = (ne_eqb b 124 (λ e. omega (arith, e, h.high)), ne_eqb b 10 (λ e. omega (arith, e, h.low)))

-- and so it is plain
pub plain_number : (n : ℕ) → n < 2 ^ 64 → IsPlain (decimal n)
plain_number n low = All-weaker IsDigit (λ (b : ℕ). ((b == 124) ≡ false) × ((b == 10) ≡ false)) plain_digit (decimal n) (digits_in n low)
