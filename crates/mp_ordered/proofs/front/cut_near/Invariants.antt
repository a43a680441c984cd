-- The items so far stand in front.
use Rattle.std.proofs.Common.{◌≤◌}
use Rattle.std.specs.List.{prefix_len}
use Rattle.mp_ordered.proofs.front.cut_near.Given as goal

abbrev pub invariant-loop-place : goal.invariant-loop-place
invariant-loop-place g l = l.place ≤ prefix_len (g.C.Cut.front l.cut) l.block.items
