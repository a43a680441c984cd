-- Nothing stands in order.
use Rattle.mp_msg.proofs.Sorted.{nothing_in_order}
use Rattle.mp_msg.proofs.state.BinState.new.Goals as goal

pub invariant_of-result : goal.invariant_of-result
invariant_of-result g c = nothing_in_order c.new.result.entries c.new-2.result.wakes c.new-2.ensures
