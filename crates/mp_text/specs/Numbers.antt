-- The numbers that a text can say.
use Rattle.std.specs.Prelude.{ℕ, Bool, List, length, nat_lt, nat_le, ◌&&◌, Result, Ok, Err, if◌then◌else◌}
use Rattle.std.specs.Str.{all_ascii_digits}
use Rattle.std.specs.Str.Parse.{digits_value}
use Rattle.mp_text.specs.declared.numbers.BadNumber.{BadNumber}
use Rattle.mp_text.specs.declared.numbers.BadNumber.TheVariants.{Digits, Range}

-- a number is one or more digits `0` to `9`
abbrev pub is_number : List ℕ → Bool
is_number text = nat_lt 0 (length text) && all_ascii_digits text

-- what the digits are worth; leading zeros change nothing
abbrev pub value_of : List ℕ → ℕ
value_of text = digits_value 10 text

-- the number that a text says, which may be at most `max`, or what is wrong with it
unfoldable pub number_of : List ℕ → ℕ → Result ℕ BadNumber
number_of text max =
    if is_number text then (if nat_le (value_of text) max then Ok (value_of text) else Err Range) else Err Digits
