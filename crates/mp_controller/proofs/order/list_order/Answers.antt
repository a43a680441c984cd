use Rattle.std.proofs.Common.{arith}
use Rattle.mp_controller.proofs.Orders.{in_list_order}
use Rattle.mp_controller.proofs.order.list_order.Goals as goal

pub returns : goal.returns
returns c = let few = c.requires in in_list_order c.args.controls.now c.loop-index.order.items (let i = c.loop-index.invariant.as_many in omega arith) c.loop-index.invariant.at
