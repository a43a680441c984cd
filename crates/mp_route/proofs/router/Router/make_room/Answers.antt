use Rattle.std.proofs.Common.{All, sym, subst}
use Rattle.mp_msg.specs.Contents.{IsRecordOf}
use Rattle.mp_route.proofs.router.Router.make_room.Goals as goal
use Rattle.mp_model.specs.Tables.{table_of}

pub invariant_of-self : goal.invariant_of-self
invariant_of-self g c =
    let job = g.J.Naming.job in
    let s = c.self.inside in
    (c.self.invariant.0, subst (All (IsRecordOf (table_of g.Q.Query.facts job) job s.stage)) (sym c.make_room.ensures.items) c.self.invariant.1)
