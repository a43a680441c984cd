-- There are fewer pieces each time.
use Rattle.std.proofs.Common.{◌+◌, ◌*◌}
use Rattle.mp_events_threads.proofs.parts.+pieces.Given as goal

abbrev pub decreases-join+arg3 : goal.decreases-join+arg3
decreases-join+arg3 g l = 2 * l.last + 1

abbrev pub decreases-pieces_below : goal.decreases-pieces_below
decreases-pieces_below g l = 2 * l.end
