use Rattle.std.proofs.Common.{◌≡◌, [], subst}
use Rattle.std.specs.Option.{IfNone, IfSome}
use Rattle.std.specs.Prelude.{Option, Some, slice_get}
use Rattle.std.proofs.lemmas.Bool.{false≢true}
use Rattle.mp_outline.specs.JobOutline.{outline_of}
use Rattle.mp_handoff.proofs.Settling.{none_leaves_before, none_leaves_settled, starts}
use Rattle.mp_handoff.proofs.movers.Movers.due.Goals as goal
use Rattle.mp_model.specs.Tables.{table_of}

pub returns-in_default-clause-none_may : goal.returns-in_default-clause-none_may
returns-in_default-clause-none_may g c =
    let job = g.J.Naming.job in
    let o = outline_of (table_of g.Q.Query.facts job) job in
    let none : c.self.inside.unsettled.items ≡ [] = subst (λ (r : Option _). IfNone r (c.self.inside.unsettled.items ≡ [])) c.in_default.is c.first.ensures.none in
    rw (← c.self.view_is) (λ log b t i y. none_leaves_settled o log c.args.owners.now c.args.seen.now _ i none b t y)

pub returns-then-not-may_leave-clause-none_may : goal.returns-then-not-may_leave-clause-none_may
returns-then-not-may_leave-clause-none_may g c =
    let job = g.J.Naming.job in
    let o = outline_of (table_of g.Q.Query.facts job) job in
    let ts = c.self.inside.unsettled.items in
    let t = c.in-Some.first.now in
    let some = subst (λ (r : Option _). IfSome r (λ x. slice_get ts 0 ≡ Some x.now)) c.in-Some.is c.first.ensures.some in
    let s = starts ts t some in
    let can = rw (← c.self.view_is) at c.if-not-may_leave.ensures.1 in
    rw (← c.self.view_is) (λ log b u i y. none_leaves_before o log c.args.owners.now c.args.seen.now _ i t s.0 s.1 c.self.invariant.1 (λ h. false≢true (can h)) b u y)
