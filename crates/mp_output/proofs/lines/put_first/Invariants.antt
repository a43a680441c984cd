-- The lines of the blocks so far are written, and so many rows of the others are to be.
use Rattle.std.proofs.Common.{◌≡◌, ◌+◌, length, take}
use Rattle.mp_ordered.specs.Blocks.{items_of}
use Rattle.mp_output.specs.Unwritten.{lines_of}
use Rattle.mp_output.proofs.lines.put_first.Given as goal

abbrev pub invariant-loop-block : goal.invariant-loop-block
invariant-loop-block l = record {
  lines : l.lines.items ≡ lines_of (items_of (take l.block-index l.block-items));
  left : length (items_of (take l.block-index l.block-items)) + l.left ≡ l.count;
}
