use Rattle.mp_host.proofs.Kept.{hosted_still, states_fit}
use Rattle.mp_host.proofs.host.Host.make_room.Goals as goal

pub invariant_of-self-2 : goal.invariant_of-self-2
invariant_of-self-2 g c =
    let h = c.self.invariant in
    rw (c.make_room-2.ensures.items, c.make_room.ensures.same) (hosted_still _ _ _ _ _ _ _ _ h h.order.content h.order.records (states_fit _ _ _ _ h))

pub invariant_of-self : goal.invariant_of-self
invariant_of-self g c =
    let h = c.self.invariant in
    rw c.make_room.ensures.same (hosted_still _ _ _ _ _ _ _ _ h h.order.content h.order.records (states_fit _ _ _ _ h))
