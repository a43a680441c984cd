-- The numbers that a text says.
use Rattle.std.proofs.Common.{◌≡◌, ◌<◌, ◌≤◌, ◌+◌, ◌-◌, ◌*◌, ◌^◌, ℕ, true, false, List, length, get_or, take, length-take, get_or-take, below_more, subst, ap, sym, ◌∙◌, arith, Ok, Err, Option, Some, None, ⊎_elim}
use Rattle.std.specs.Int.{IsInRange}
use Rattle.std.specs.Char.{is_ascii_digit}
use Rattle.std.specs.Fmt.{decimal}
use Rattle.std.specs.Option.{SomeIff, ok_or}
use Rattle.std.specs.Str.{all_ascii_digits}
use Rattle.std.specs.Str.Parse.{AllDigits, digits_value}
use Rattle.std.proofs.Math.Nat.{pow-le-pow_right}
use Rattle.std.proofs.lemmas.Bool.{cases_lt, ltb-true, leb-true, lt-ltb, le-leb, lt-leb, and_from, and_parts, cond-true, cond-false}
use Rattle.std.proofs.lemmas.Fmt.{digits_decimal, digits_value-decimal, decimal_nonempty}
use Rattle.std.proofs.lemmas.Int.Digits.{digits_value_more, digits_value-lt}
use Rattle.std.proofs.lemmas.Str.{digit_value_digit}
use Rattle.std.proofs.lemmas.Str.Parse.{IsNumeralModel, numerals_by_value, tells_all_ascii_digits, tells_by_index, digit_at, digits_value-take-le}
use Rattle.mp_text.specs.Numbers.{is_number, value_of, number_of}
use Rattle.mp_text.specs.declared.numbers.BadNumber.TheVariants.{Digits, Range}

-- std's lemmas on printing and parsing serve these words
pub numerals : IsNumeralModel (λ text. all_ascii_digits text ≡ true) (digits_value 10)
numerals = numerals_by_value (λ text. all_ascii_digits text ≡ true) tells_all_ascii_digits

-- the value of one digit more
pub value_of-more : (text : List ℕ) (i : ℕ) → AllDigits 10 text → i < length text
    → (48 ≤ get_or text i 0) × (get_or text i 0 ≤ 57) × (value_of (take (i + 1) text) ≡ value_of (take i text) * 10 + (get_or text i 0 - 48))
value_of-more text i digits low =
    let range = digit_at text i digits low in
    let worth = digit_value_digit (get_or text i 0) range in
    let more = digits_value_more 10 text i low in
    (omega (arith, range), omega (arith, range), more ∙ omega (arith, worth))

-- the first digits are worth no more than all of them
pub value_of-take-le : (text : List ℕ) (i : ℕ) → value_of (take i text) ≤ value_of text
value_of-take-le text i = digits_value-take-le 10 text i (omega arith)

-- a text that is no number
pub number_of-digits : (text : List ℕ) (max : ℕ) → is_number text ≡ false → number_of text max ≡ Err Digits
unfolding number_of
number_of-digits text max is = cond-false _ _ _ is

-- a number above the greatest that is allowed
pub number_of-range : (text : List ℕ) (max : ℕ) → is_number text ≡ true → max < value_of text → number_of text max ≡ Err Range
unfolding number_of
number_of-range text max is above = cond-true _ _ _ is ∙ cond-false _ _ _ (lt-leb (value_of text) max above)

-- a number within it
pub number_of-ok : (text : List ℕ) (max : ℕ) → is_number text ≡ true → value_of text ≤ max → number_of text max ≡ Ok (value_of text)
unfolding number_of
number_of-ok text max is within = cond-true _ _ _ is ∙ cond-true _ _ _ (le-leb (value_of text) max within)

-- what is written as a number is read as that number
pub number_of-decimal : (n max : ℕ) → n < 2 ^ 64 → n ≤ max → number_of (decimal n) max ≡ Ok n
number_of-decimal n max small within =
    let worth : value_of (decimal n) ≡ n = digits_value-decimal numerals n small in
    let told : is_number (decimal n) ≡ true = and_from _ _ (lt-ltb _ _ (decimal_nonempty n small)) (digits_decimal numerals n small) in
    number_of-ok (decimal n) max told (omega (arith, worth)) ∙ ap Ok worth

-- digits by std's test are digits by std's fact
pub AllDigits-from_all_ascii_digits : (text : List ℕ) → all_ascii_digits text ≡ true → AllDigits 10 text
AllDigits-from_all_ascii_digits text digits = numerals.to text digits

-- the answer for digits, from their value where that is within the greatest that is allowed
pub number_of-ok_or : (text : List ℕ) (max : ℕ) (value : Option ℕ) → is_number text ≡ true → SomeIff value (value_of text ≤ max) (value_of text)
    → ok_or value Range ≡ number_of text max
number_of-ok_or text max None is above = sym (number_of-range text max is (⊎_elim (λ low. low) (λ high. absurd (above high)) (cases_lt max (value_of text))))
number_of-ok_or text max (Some n) is same = ap Ok same.1 ∙ sym (number_of-ok text max is same.0)

-- each byte below a place is a digit
abbrev pub DigitsBelow : List ℕ → ℕ → Type 0
DigitsBelow text i = (k : ℕ) → k < i → IsInRange 48 57 (get_or text k 0)

-- one digit more
pub DigitsBelow-next : (text : List ℕ) (i : ℕ) → DigitsBelow text i → IsInRange 48 57 (get_or text i 0) → DigitsBelow text (i + 1)
DigitsBelow-next text i digits digit = below_more _ _ digits digit

-- such bytes are digits alone
AllDigits-below : (text : List ℕ) (i : ℕ) → DigitsBelow text i → AllDigits 10 (take i text)
AllDigits-below text i digits = (numerals_by_value _ tells_by_index).to (take i text) at
  where
    at : (k : ℕ) → k < length (take i text) → IsInRange 48 57 (get_or (take i text) k 0)
    at k low =
        let short = length-take i text in
        let same = get_or-take i text k 0 (omega (arith, short, low)) in
        subst (IsInRange 48 57) (sym same) (digits k (omega (arith, short, low)))

-- the value of one digit more
pub value_of-next : (text : List ℕ) (i : ℕ) → i < length text → IsInRange 48 57 (get_or text i 0)
    → value_of (take (i + 1) text) ≡ value_of (take i text) * 10 + (get_or text i 0 - 48)
value_of-next text i low range = digits_value_more 10 text i low ∙ omega (arith, digit_value_digit (get_or text i 0) range)

-- fewer than 19 digits are worth less than 10 ^ 18
pub value_of-small : (text : List ℕ) (i : ℕ) → DigitsBelow text i → i < 19 → value_of (take i text) < 10 ^ 18
value_of-small text i digits few =
    let short = length-take i text in
    let below = digits_value-lt 10 (take i text) (AllDigits-below text i digits) in
    let shorter : length (take i text) ≤ 18 = omega (arith, short, few) in
    let least : 10 ^ length (take i text) ≤ 10 ^ 18 = pow-le-pow_right (omega arith) shorter in
    omega (arith, below, least)

-- a number has no byte but digits
pub is_number-digit : (text : List ℕ) (i : ℕ) → is_number text ≡ true → i < length text → IsInRange 48 57 (get_or text i 0)
is_number-digit text i is low = digit_at text i (AllDigits-from_all_ascii_digits text (and_parts _ _ is).1) low

-- digits alone, of which there is one at least, are a number
pub is_number-below : (text : List ℕ) → 0 < length text → DigitsBelow text (length text) → is_number text ≡ true
is_number-below text some digits = and_from _ _ (lt-ltb _ _ some) (numerals.from text ((numerals_by_value _ tells_by_index).to text digits))

-- a number is not empty
pub is_number-some : (text : List ℕ) → is_number text ≡ true → 0 < length text
is_number-some text is = ltb-true _ _ (and_parts _ _ is).0

-- std's test of a digit, and its range
pub digit_range : (d : ℕ) → is_ascii_digit d ≡ true → IsInRange 48 57 d
digit_range d is = let parts = and_parts _ _ is in (leb-true _ _ parts.0, leb-true _ _ parts.1)

pub digit_told : (d : ℕ) → IsInRange 48 57 d → is_ascii_digit d ≡ true
digit_told d range = and_from _ _ (le-leb _ _ range.0) (le-leb _ _ range.1)
