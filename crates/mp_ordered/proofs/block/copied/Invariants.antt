-- The items of the blocks so far are there.
use Rattle.std.proofs.Common.{◌≡◌, take}
use Rattle.mp_ordered.specs.Blocks.{items_of}
use Rattle.mp_ordered.proofs.block.copied.Given as goal

abbrev pub invariant-loop-block : goal.invariant-loop-block
invariant-loop-block g l = l.items.items ≡ items_of (take l.block-index l.blocks)
