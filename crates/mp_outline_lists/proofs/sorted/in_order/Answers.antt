-- Names by time are the same names.
use Rattle.std.proofs.Common.{◌∙◌}
use Rattle.mp_outline_lists.proofs.InOrder.{ascending_same}
use Rattle.mp_outline_lists.proofs.sorted.in_order.Goals as goal

pub returns : goal.returns
returns c = c.put_in_order.ensures ∙ ascending_same c.in_ok-sorted.sorted.items c.args.names.now c.in_ok-sorted.ensures
