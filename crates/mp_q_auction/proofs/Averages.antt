-- The average of numbers of 64 bits.
use Rattle.std.proofs.Common.{ℕ, ◌-◌, ◌*◌, ◌/◌, ◌^◌, ◌<◌, ◌≤◌, Option, Some, None, arith}
use Rattle.std.specs.Option.{SomeIff, unwrap_or}
use Rattle.std.proofs.Math.Nat.{div-le_of_le-mul}

-- it is one
pub average_fits : (average : Option ℕ) (total count : ℕ) → SomeIff average (0 < count) (total / count) → total ≤ count * (2 ^ 64 - 1)
    → unwrap_or average 0 < 2 ^ 64
average_fits None total count is bound = omega arith
average_fits (Some a) total count is bound = omega (arith, is.1, div-le_of_le-mul count bound)
