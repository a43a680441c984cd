use Rattle.std.proofs.Common.{◌≡◌, ◌<◌, ◌-◌, false, Option, subst}
use Rattle.std.specs.List.{prefix_len}
use Rattle.std.specs.Option.{IfNone, IfSome}
use Rattle.std.specs.Prelude.{Some, slice_get}
use Rattle.std.proofs.lemmas.Bool.{false≢true}
use Rattle.mp_outline.specs.JobOutline.{outline_of}
use Rattle.mp_handoff.proofs.Noting.{told}
use Rattle.mp_handoff.proofs.Times.{last_found, none_found, upto, upto_first}
use Rattle.mp_handoff.proofs.movers.Movers.unsettled.Goals as goal
use Rattle.mp_model.specs.Tables.{table_of}

pub last_in_front-requires : goal.last_in_front-requires
last_in_front-requires g c = upto_first c.self.inside.unsettled.items c.args.time c.self.invariant.1

pub returns-in-Some-clause-here : goal.returns-in-Some-clause-here
returns-in-Some-clause-here g c =
    let ts = c.self.inside.unsettled.items in
    let p = prefix_len (upto ts c.args.time c.self.invariant.1) ts in
    let some = subst (λ (o : Option _). IfSome o (λ x. slice_get ts (p - 1) ≡ Some x.now)) c.in-Some.is c.last_in_front.ensures.some in
    let front : 0 < p = subst (λ (o : Option _). IfSome o (λ x. 0 < p)) c.in-Some.is c.last_in_front.ensures.some_in_front in
    rw (← c.self.view_is) (last_found ts c.args.time c.self.invariant.1 c.in-Some.last.now front some)

pub returns-in-None-clause-here : goal.returns-in-None-clause-here
returns-in-None-clause-here g c =
    let ts = c.self.inside.unsettled.items in
    let p = prefix_len (upto ts c.args.time c.self.invariant.1) ts in
    let none : p ≡ 0 = subst (λ (o : Option _). IfNone o (p ≡ 0)) c.in-None.is c.last_in_front.ensures.none in
    rw (← c.self.view_is) ((λ e. absurd (false≢true e)), (λ i. absurd (none_found ts c.args.time c.self.invariant.1 none i)))

pub returns-in-Some-clause-told : goal.returns-in-Some-clause-told
returns-in-Some-clause-told g c =
    let job = g.J.Naming.job in
    λ log i h new. told (outline_of (table_of g.Q.Query.facts job) job) log c.args.self.now c.args.time i h new _ (returns-in-Some-clause-here g c)

pub returns-in-None-clause-told : goal.returns-in-None-clause-told
returns-in-None-clause-told g c =
    let job = g.J.Naming.job in
    λ log i h new. told (outline_of (table_of g.Q.Query.facts job) job) log c.args.self.now c.args.time i h new false (returns-in-None-clause-here g c)
