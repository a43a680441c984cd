-- There are spare blocks up to the number that the loop has come to.
use Rattle.std.proofs.Common.{◌≡◌, ◌≤◌, All, length}
use Rattle.std.specs.Vec.{vec_capacity}
use Rattle.mp_ordered.specs.Blocks.{IsSpare}
use Rattle.mp_ordered.proofs.block.add_spare.Given as goal

abbrev pub invariant-loop-made : goal.invariant-loop-made
invariant-loop-made g l = record {
  spare : All IsSpare l.spare.items;
  made : length l.spare.items ≡ l._made;
  memory : vec_capacity l.initial.spare ≤ vec_capacity l.spare;
}
