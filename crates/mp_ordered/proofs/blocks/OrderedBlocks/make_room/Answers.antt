use Rattle.std.proofs.Common.{arith}
use Rattle.mp_ordered.specs.Blocks.{row_of}
use Rattle.mp_ordered.proofs.Changed.{past_within}
use Rattle.mp_ordered.proofs.blocks.OrderedBlocks.make_room.Goals as goal

pub overflow_add-wanted : goal.overflow_add-wanted
overflow_add-wanted g c = let s = c.self.inside in omega (arith, past_within g.O.Order.rank (row_of s.blocks s.gone) s.spare s.len s.past s.room c.self.invariant.1)
