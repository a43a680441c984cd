-- The block at `at` begins in front, if it isn't the first, and the one past the next `count` doesn't.
use Rattle.std.proofs.Common.{◌≡◌, ◌+◌, ◌≤◌, ◌<◌, true, false, get_or, length}
use Rattle.std.specs.declared.alloc.Global.{Global}
use Rattle.std.specs.declared.collections.VecDeque.{VecDeque}
use Rattle.mp_ordered.specs.InOrder.{begins}
use Rattle.mp_ordered.proofs.block.cut_block.Given as goal

abbrev pub invariant-loop-count : goal.invariant-loop-count
invariant-loop-count g l = record {
  some : 0 < l.count;
  inside : l.at + l.count ≤ length l.blocks;
  begun : (d : VecDeque g.row.T.Denot Global) → 0 < l.at → begins (g.C.Cut.front l.cut) (get_or l.blocks l.at d).items ≡ true;
  ends : (d : VecDeque g.row.T.Denot Global) → l.at + l.count < length l.blocks → begins (g.C.Cut.front l.cut) (get_or l.blocks (l.at + l.count) d).items ≡ false;
}

abbrev pub decreases-loop-count : goal.decreases-loop-count
decreases-loop-count g l = l.count
