use Rattle.std.proofs.lemmas.Result.{on_ok_weaker}
use Rattle.mp_msg.specs.Contents.{IsRecordOf}
use Rattle.mp_route.proofs.Holding.{all_held, in_turn, one_more}
use Rattle.mp_route.proofs.router.Router.hold.Goals as goal
use Rattle.mp_model.specs.Tables.{table_of}

pub invariant_of-self : goal.invariant_of-self
invariant_of-self g c =
    let job = g.J.Naming.job in
    let s = c.self.inside in
    (c.self.invariant.0, all_held (IsRecordOf (table_of g.Q.Query.facts job) job s.stage) c.args.rec s.held c.insert.new.self c.insert.result (rw (← c.self.view_is) at c.requires) c.self.invariant.1 c.insert.ensures.put c.insert.ensures.unchanged)

pub returns-clause-unsent : goal.returns-clause-unsent
returns-clause-unsent g c =
    let job = g.J.Naming.job in
    let s = c.self.inside in
    rw (← c.self.view_is) (on_ok_weaker c.insert.result (λ put w old new. one_more (table_of g.Q.Query.facts job) job w s.stage c.args.rec s.held c.insert.new.self put old new) c.insert.ensures.put)

pub returns-clause-in_turn : goal.returns-clause-in_turn
returns-clause-in_turn g c =
    let job = g.J.Naming.job in
    let s = c.self.inside in
    rw (← c.self.view_is) (on_ok_weaker c.insert.result (λ put w log rest. in_turn (table_of g.Q.Query.facts job) job w s.stage c.args.rec s.held c.insert.new.self put log rest) c.insert.ensures.put)
