use Rattle.mp_outline.specs.JobOutline.{outline_of}
use Rattle.mp_handoff.proofs.Same.{other_room}
use Rattle.mp_handoff.proofs.movers.Movers.make_room.Goals as goal
use Rattle.mp_model.specs.Tables.{table_of}

pub returns-clause-held : goal.returns-clause-held
returns-clause-held g c =
    let job = g.J.Naming.job in
    rw (← c.self.view_is) (λ log h. other_room (outline_of (table_of g.Q.Query.facts job) job) log _ c.make_room.new.self.items c.make_room.new.self.room c.make_room.ensures.items h)
