-- The place is no smaller than the first one.
use Rattle.std.proofs.Common.{◌≤◌, ◌-◌, length}
use Rattle.mp_events.proofs.piece.line_start_behind.Given as goal

abbrev pub invariant-bytes : goal.invariant-bytes
invariant-bytes l = l.fn.place ≤ l.at

abbrev pub decreases-bytes : goal.decreases-bytes
decreases-bytes l = length l.text - l.at
