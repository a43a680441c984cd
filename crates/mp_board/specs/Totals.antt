-- Room for changes in counts.
use Rattle.std.specs.Prelude.{◌+◌, ◌*◌, ◌^◌, ℕ, ℤ, pos, ◌+ℤ◌, ◌≤ℤ◌}
use Rattle.mp_names.specs.declared.locations.Loc.{Loc}
use Rattle.mp_stamps.specs.Counts.{CountTable, count_in}

-- so many changes more, each by an `i64`, leave the count an `i128`
pub record FitsMore (k : ℕ) (count : ℤ) : Type 0 where
  pub low : pos (k * 2 ^ 63) ≤ℤ (count +ℤ pos (2 ^ 127))
  pub high : (count +ℤ pos (k * 2 ^ 63 + 1)) ≤ℤ pos (2 ^ 127)

-- whatever each of them is of
abbrev pub HasRoomFor : ℕ → CountTable → Type 0
HasRoomFor k counts = (loc : Loc) (t : ℕ) → FitsMore k (count_in counts loc t)
