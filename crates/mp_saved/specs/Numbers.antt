-- Numbers as a text, and read from one.
use Rattle.std.specs.Prelude.{ℕ, ◌-◌, ◌^◌, List, [], ◌∷◌, Option, Some, None, Result, Ok, Err, map}
use Rattle.std.specs.Fmt.{decimal}
use Rattle.std.specs.List.{join_with_byte}
use Rattle.mp_text.specs.Fields.{fields_of}
use Rattle.mp_text.specs.Numbers.{number_of}
use Rattle.mp_text.specs.declared.numbers.BadNumber.{BadNumber}

-- numbers in decimal digits, cut by `|`
abbrev pub numbers_text : List ℕ → List ℕ
numbers_text ns = join_with_byte 124 (map decimal ns)

-- the number that is told, if one is
abbrev pub if_number : Result ℕ BadNumber → Option ℕ
if_number (Ok n) = Some n
if_number (Err why) = None

-- the number of 64 bits that a word says, if it says one
abbrev pub number_in : List ℕ → Option ℕ
number_in word = if_number (number_of word (2 ^ 64 - 1))

-- one more in front, where both are there
abbrev pub with_first : Option ℕ → Option (List ℕ) → Option (List ℕ)
with_first (Some n) (Some ns) = Some (n ∷ ns)
with_first _ _ = None

-- the numbers that words say, if each of them says one
abbrev pub numbers_said : List (List ℕ) → Option (List ℕ)
numbers_said [] = Some []
numbers_said (word ∷ words) = with_first (number_in word) (numbers_said words)

-- the numbers that a text says
abbrev pub numbers_in : List ℕ → Option (List ℕ)
numbers_in text = numbers_said (fields_of text)
