-- Those that are put back stand in front of the others, as they did.
use Rattle.std.proofs.Common.{◌≡◌, ◌+◌, ◌≤◌, ◌++◌, length}
use Rattle.mp_route.proofs.along.put_back.Given as goal

abbrev pub invariant-loop-rec : goal.invariant-loop-rec
invariant-loop-rec l = record {
  items : l.kept.items ++ l.held.items ≡ l.initial.kept.items ++ l.initial.held.items;
  room : l.initial.held.room + length l.kept.items ≤ l.held.room + length l.initial.kept.items;
}

abbrev pub decreases-loop-rec : goal.decreases-loop-rec
decreases-loop-rec l = length l.kept.items
