use Rattle.mp_output.proofs.unsent.Unsent.make_room.Goals as goal

pub invariant_of-self : goal.invariant_of-self
invariant_of-self g c = rw c.make_room.ensures.items c.self.invariant
