-- So many lines are read.
use Rattle.std.proofs.Common.{◌≤◌, length}
use Rattle.mp_events.specs.Pieces.{BeginsWithEvents}
use Rattle.mp_names.specs.Limits.{most_events}
use Rattle.mp_events.proofs.piece.events_before.Given as goal

abbrev pub invariant-lines : goal.invariant-lines
invariant-lines l = record {
  begins : BeginsWithEvents l.text l.events.items l.rest;
  few : length l.events.items ≤ most_events;
}

abbrev pub decreases-lines : goal.decreases-lines
decreases-lines l = length l.rest
