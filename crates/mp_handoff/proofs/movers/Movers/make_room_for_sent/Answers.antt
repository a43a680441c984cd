use Rattle.mp_outline.specs.JobOutline.{outline_of}
use Rattle.mp_handoff.proofs.Same.{other_room_for_sent}
use Rattle.mp_handoff.proofs.movers.Movers.make_room_for_sent.Goals as goal
use Rattle.mp_model.specs.Tables.{table_of}

pub invariant_of-self : goal.invariant_of-self
invariant_of-self g c = (c.self.invariant.0, c.self.invariant.1, rw c.reserve.ensures.items c.self.invariant.2)

pub returns-clause-held : goal.returns-clause-held
returns-clause-held g c =
    let job = g.J.Naming.job in
    rw (← c.self.view_is, c.reserve.ensures.items) (λ log h. other_room_for_sent (outline_of (table_of g.Q.Query.facts job) job) log _ _ h)
