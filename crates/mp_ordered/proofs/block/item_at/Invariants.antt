-- What is looked for stands so far behind the blocks so far.
use Rattle.std.proofs.Common.{◌≡◌, ◌+◌, drop, length}
use Rattle.std.specs.Prelude.{slice_get}
use Rattle.mp_ordered.specs.Blocks.{items_of}
use Rattle.mp_ordered.proofs.block.item_at.Given as goal

abbrev pub invariant-loop-block : goal.invariant-loop-block
invariant-loop-block g l = record {
  same : slice_get (items_of l.blocks) l.index ≡ slice_get (items_of (drop l.block-index l.blocks)) l.left;
  count : length (items_of l.blocks) + l.left ≡ l.index + length (items_of (drop l.block-index l.blocks));
}
