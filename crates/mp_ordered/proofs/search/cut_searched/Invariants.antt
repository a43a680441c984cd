-- So many stand in front, and at most so many more.
use Rattle.std.proofs.Common.{◌+◌, ◌≤◌, ◌<◌, length}
use Rattle.std.specs.List.{prefix_len}
use Rattle.mp_ordered.proofs.search.cut_searched.Given as goal

abbrev pub invariant-loop-size : goal.invariant-loop-size
invariant-loop-size g l = record {
  some : 0 < l.size;
  inside : l.base + l.size ≤ length l.items;
  least : l.base ≤ prefix_len (g.C.Cut.front l.cut) l.items;
  most : prefix_len (g.C.Cut.front l.cut) l.items ≤ l.base + l.size;
}

abbrev pub decreases-loop-size : goal.decreases-loop-size
decreases-loop-size g l = l.size
