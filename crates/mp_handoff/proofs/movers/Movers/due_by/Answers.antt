use Rattle.std.proofs.lemmas.Bool.{false≢true}
use Rattle.std.proofs.Common.{refl}
use Rattle.mp_outline.specs.JobOutline.{outline_of}
use Rattle.mp_handoff.proofs.Leaving.{may_leave, none_earlier, none_leaves}
use Rattle.mp_handoff.proofs.movers.Movers.due_by.Goals as goal
use Rattle.mp_model.specs.Tables.{table_of}

pub returns-in_default-clause-none_may : goal.returns-in_default-clause-none_may
returns-in_default-clause-none_may g c =
    let job = g.J.Naming.job in
    let o = outline_of (table_of g.Q.Query.facts job) job in
    rw (← c.self.view_is) (λ log b t i y. none_leaves o log c.args.owners.now c.args.seen.now _ i c.in_default.ensures.none_left b t y)

pub returns-then-not-may_leave-clause-none_may : goal.returns-then-not-may_leave-clause-none_may
returns-then-not-may_leave-clause-none_may g c =
    let job = g.J.Naming.job in
    let o = outline_of (table_of g.Q.Query.facts job) job in
    let can = rw (← c.self.view_is) at c.if-not-may_leave.ensures.1 in
    rw (← c.self.view_is) (λ log b t i y. none_earlier o log c.args.owners.now c.args.seen.now _ i c.in-Some.moved c.in-Some.ensures.next (λ h. false≢true (can h)) b t y)

pub returns-clause-may_leave : goal.returns-clause-may_leave
returns-clause-may_leave g c =
    let job = g.J.Naming.job in
    let o = outline_of (table_of g.Q.Query.facts job) job in
    let can = rw (← c.self.view_is) at c.if-not-may_leave.ensures.0 in
    rw (← c.self.view_is) (λ log i. may_leave o log c.args.owners.now c.args.seen.now _ i c.in-Some.moved c.in-Some.ensures.next (can refl))
