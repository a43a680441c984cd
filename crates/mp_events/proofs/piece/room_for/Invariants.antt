-- There are not too many yet.
use Rattle.std.proofs.Common.{◌≤◌}
use Rattle.mp_names.specs.Limits.{most_events}
use Rattle.mp_events.proofs.piece.room_for.Given as goal

abbrev pub invariant-loop-piece : goal.invariant-loop-piece
invariant-loop-piece l = l.count ≤ most_events
