-- The counts of empty logs.
use Rattle.std.specs.Prelude.{◌≡◌, ◌+◌, ◌*◌, ◌^◌, ◌≤◌, ℕ, pos}
use Rattle.mp_names.specs.declared.locations.Loc.{Loc}
use Rattle.mp_names.specs.Frontiers.{contribution, sum_below}
use Rattle.mp_names.specs.Logs.{empty_log}
use Rattle.mp_names.specs.Outlines.{Outline}
use Rattle.mp_stamps.specs.Counts.{CountTable, IsCounted, count_in, low_of}
use Rattle.mp_board.specs.Totals.{HasRoomFor}

-- The empty logs of the workers below the number are counted, where counts are kept, and nothing else; and nothing was given back
pub record AreOpened (o : Outline) (workers : ℕ) (counts : CountTable) : Type 0 where
  pub counted : (loc : Loc) (t : ℕ) → IsCounted counts loc t → count_in counts loc t ≡ sum_below workers (λ w. contribution o w empty_log loc t)
  pub not_counted : (loc : Loc) (t : ℕ) → ¬ IsCounted counts loc t → count_in counts loc t ≡ pos 0
  pub kept : (loc : Loc) → low_of counts loc ≡ 0
  pub room : (k : ℕ) → k + workers * 2 ^ 40 ≤ 2 ^ 63 + 2 ^ 62 → HasRoomFor k counts
