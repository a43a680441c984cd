-- The times at which something happens.
use Rattle.std.specs.Prelude.{ℕ, Option, None, Some, List, [], map}
use Rattle.mp_opening.specs.Openings.{OpeningOf}
pub use Rattle.mp_shares.specs.Times.{control_times, post_times_of, times_of, wake_times}

-- the times of the wakes of a checkpoint, if it is given
abbrev pub opening_times : {Cell : Type 0} → Option (OpeningOf Cell) → List ℕ
opening_times None = []
opening_times (Some o) = map (λ w. w.time) o.from.wakes
