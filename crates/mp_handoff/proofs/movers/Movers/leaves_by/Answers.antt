use Rattle.std.specs.Prelude.{◌-◌, length}
use Rattle.std.specs.Vec.{vec_capacity}
use Rattle.mp_handoff.proofs.Leaving.{leaves_by, moving}
use Rattle.mp_handoff.proofs.movers.Movers.leaves_by.Goals as goal

pub returns-in-Some : goal.returns-in-Some
returns-in-Some g c =
    let m = moving c.self.inside.stage c.self.inside.worker c.self.inside.unsettled c.self.inside.last c.self.inside.sent.items (vec_capacity c.self.inside.sent - length c.self.inside.sent.items) in
    rw (← c.self.view_is) (leaves_by c.args.owners.now m c.args.time c.in-Some.moved c.in-Some.ensures.next)
