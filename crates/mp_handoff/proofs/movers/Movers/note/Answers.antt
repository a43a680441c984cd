use Rattle.std.proofs.Common.{Contains, refl, sym, ap, subst}
use Rattle.std.proofs.lemmas.Bool.{false≢true}
use Rattle.mp_outline.specs.JobOutline.{outline_of}
use Rattle.mp_handoff.specs.MoversState.{MoversState, Rises}
use Rattle.mp_handoff.proofs.Noting.{noted_on}
use Rattle.mp_handoff.proofs.Times.{ok_then, placed_same, put_at_place, still_rises}
use Rattle.mp_handoff.proofs.movers.Movers.note.Goals as goal
use Rattle.mp_model.specs.Tables.{table_of}

-- src/movers.rt: a time that is there
pub returns-then-unsettled-clause-noted : goal.returns-then-unsettled-clause-noted
returns-then-unsettled-clause-noted g c =
    sym (placed_same c.args.time c.args.self.now.unsettled (subst Rises (ap (λ (m : MoversState). m.unsettled) c.self.view_is) c.self.invariant.1) (c.if-unsettled.ensures.here.0 refl))

pub returns-then-unsettled-clause-held : goal.returns-then-unsettled-clause-held
returns-then-unsettled-clause-held g c =
    let job = g.J.Naming.job in
    let m = c.args.self.now in
    λ log i h new. noted_on (outline_of (table_of g.Q.Query.facts job) job) log m c.args.time i h new m.unsettled m.room (returns-then-unsettled-clause-noted g c)

-- a time that isn't
pub invariant_of-self : goal.invariant_of-self
invariant_of-self g c = (c.self.invariant.0, still_rises c.insert.result c.args.time c.self.inside.unsettled c.insert.new.self (λ k. false≢true (c.if-unsettled.ensures.here.1 (subst (λ (m : MoversState). Contains m.unsettled c.args.time) c.self.view_is k))) c.insert.ensures.put c.insert.ensures.unchanged c.self.invariant.1, c.self.invariant.2)

pub returns-clause-noted : goal.returns-clause-noted
returns-clause-noted g c =
    rw (← c.self.view_is) (put_at_place c.insert.result c.args.time c.self.inside.unsettled c.insert.new.self (λ k. false≢true (c.if-unsettled.ensures.here.1 (subst (λ (m : MoversState). Contains m.unsettled c.args.time) c.self.view_is k))) c.insert.ensures.put)

pub returns-clause-held : goal.returns-clause-held
returns-clause-held g c =
    let job = g.J.Naming.job in
    let put = put_at_place c.insert.result c.args.time c.self.inside.unsettled c.insert.new.self (λ k. false≢true (c.if-unsettled.ensures.here.1 (subst (λ (m : MoversState). Contains m.unsettled c.args.time) c.self.view_is k))) c.insert.ensures.put in
    rw (← c.self.view_is) (ok_then c.insert.result put (λ e log i h new. noted_on (outline_of (table_of g.Q.Query.facts job) job) log _ c.args.time i h new c.insert.new.self.items c.insert.new.self.room e))
