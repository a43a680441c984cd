-- The items of the blocks so far are counted.
use Rattle.std.proofs.Common.{◌≡◌, length, take}
use Rattle.mp_ordered.specs.Blocks.{items_of}
use Rattle.mp_ordered.proofs.front.count_of.Given as goal

abbrev pub invariant-loop-block : goal.invariant-loop-block
invariant-loop-block g l = l.count ≡ length (items_of (take l.block-index l.blocks))
