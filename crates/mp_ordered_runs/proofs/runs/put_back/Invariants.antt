-- Those that are put back stand in front of the others, as they did, and take up so much room.
use Rattle.std.proofs.Common.{◌≡◌, ◌+◌, ◌++◌, length}
use Rattle.std.specs.Vec.{vec_capacity}
use Rattle.mp_ordered_runs.proofs.runs.put_back.Given as goal

abbrev pub invariant-loop-item : goal.invariant-loop-item
invariant-loop-item g l = record {
  items : l.run.items ++ l.rest.items ≡ l.initial.run.items ++ l.initial.rest.items;
  room : l.rest.room + length l.initial.run.items ≡ l.initial.rest.room + length l.run.items;
  memory : vec_capacity l.run ≡ vec_capacity l.initial.run;
}

abbrev pub decreases-loop-item : goal.decreases-loop-item
decreases-loop-item g l = length l.run.items
