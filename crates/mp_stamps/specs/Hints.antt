-- Where the index of a thing is remembered.
use Rattle.std.specs.Prelude.{◌%◌, ℕ}

-- by the number of the thing
abbrev pub slot_of : ℕ → ℕ
slot_of n = n % 2048
