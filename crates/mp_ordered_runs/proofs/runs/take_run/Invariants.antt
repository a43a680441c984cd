-- The run so far is of one kind, stands in front of the others, and gives its room.
use Rattle.std.proofs.Common.{◌≡◌, ◌+◌, ◌≤◌, ◌++◌, length}
use Rattle.std.specs.Vec.{vec_capacity}
use Rattle.mp_ordered_runs.specs.Runs.{IsOneKind}
use Rattle.mp_ordered_runs.proofs.runs.take_run.Given as goal

abbrev pub invariant-loop-rest : goal.invariant-loop-rest
invariant-loop-rest g l = record {
  items : l.run.items ++ l.rest.items ≡ l.initial.rest.items;
  kind : IsOneKind g.O.Kinds.same l.run.items;
  room : l.rest.room ≡ l.initial.rest.room + length l.run.items;
  memory : vec_capacity l.initial.run ≤ vec_capacity l.run;
}

abbrev pub decreases-loop-rest : goal.decreases-loop-rest
decreases-loop-rest g l = length l.rest.items
