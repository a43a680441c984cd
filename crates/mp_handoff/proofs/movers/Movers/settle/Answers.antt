use Rattle.std.specs.Prelude.{◌-◌, length}
use Rattle.std.specs.Vec.{vec_capacity}
use Rattle.std.proofs.Common.{◌∙◌, ℕ, refl, sym, subst}
use Rattle.std.proofs.lemmas.Bool.{false≢true}
use Rattle.std.proofs.lemmas.Option.{IfSome_then}
use Rattle.mp_outline.specs.JobOutline.{outline_of}
use Rattle.mp_handoff.specs.Due.{CanSettle}
use Rattle.mp_handoff.proofs.Leaving.{moving}
use Rattle.mp_handoff.proofs.Settling.{is_first, left_rises, may_settle, none_before, none_unsettled, reads_first, reads_none, settled_on, starts}
use Rattle.mp_handoff.proofs.movers.Movers.settle.Goals as goal
use Rattle.mp_model.specs.Tables.{table_of}

pub returns-in_default-clause-none_may : goal.returns-in_default-clause-none_may
returns-in_default-clause-none_may g c =
    let job = g.J.Naming.job in
    let o = outline_of (table_of g.Q.Query.facts job) job in
    let none = reads_none c.self.inside.unsettled.items c.first.result (sym c.copied.ensures ∙ c.in_default.is) c.first.ensures.none in
    rw (← c.self.view_is) (λ log t i y. none_unsettled o log c.args.owners.now c.args.seen.now _ i none t y)

pub returns-then-not-may_settle-clause-none_may : goal.returns-then-not-may_settle-clause-none_may
returns-then-not-may_settle-clause-none_may g c =
    let job = g.J.Naming.job in
    let o = outline_of (table_of g.Q.Query.facts job) job in
    let first = reads_first c.self.inside.unsettled.items c.first.result c.in-Some.time (sym c.copied.ensures ∙ c.in-Some.is) c.first.ensures.some in
    let s = starts c.self.inside.unsettled.items c.in-Some.time first in
    let can = rw (← c.self.view_is) at c.if-not-may_settle.ensures.1 in
    rw (← c.self.view_is) (λ log t i y. none_before o log c.args.owners.now c.args.seen.now _ i c.in-Some.time s.0 s.1 c.self.invariant.1 (λ h. false≢true (can h)) t y)

pub invariant_of-self : goal.invariant_of-self
invariant_of-self g c = (c.self.invariant.0, left_rises c.self.inside.unsettled c.pop_first.new.self c.pop_first.result c.pop_first.ensures.some c.pop_first.ensures.unchanged c.self.invariant.1, c.self.invariant.2)

pub returns-clause-may_settle : goal.returns-clause-may_settle
returns-clause-may_settle g c =
    let job = g.J.Naming.job in
    let o = outline_of (table_of g.Q.Query.facts job) job in
    let m = moving c.self.inside.stage c.self.inside.worker c.self.inside.unsettled c.self.inside.last c.self.inside.sent.items (vec_capacity c.self.inside.sent - length c.self.inside.sent.items) in
    let first = reads_first c.self.inside.unsettled.items c.first.result c.in-Some.time (sym c.copied.ensures ∙ c.in-Some.is) c.first.ensures.some in
    let can = rw (← c.self.view_is) at c.if-not-may_settle.ensures.0 in
    rw (← c.self.view_is) (IfSome_then c.pop_first.result c.pop_first.ensures.some (λ x e log i.
    let same = is_first c.self.inside.unsettled.items c.in-Some.time x c.pop_first.new.self.items first e in
    may_settle o log c.args.owners.now c.args.seen.now m i x c.pop_first.new.self.items e c.self.invariant.1 (subst (λ (u : ℕ). CanSettle c.args.owners.now c.args.seen.now m u) same (can refl))))

pub returns-clause-held : goal.returns-clause-held
returns-clause-held g c =
    let job = g.J.Naming.job in
    let o = outline_of (table_of g.Q.Query.facts job) job in
    let m = moving c.self.inside.stage c.self.inside.worker c.self.inside.unsettled c.self.inside.last c.self.inside.sent.items (vec_capacity c.self.inside.sent - length c.self.inside.sent.items) in
    let first = reads_first c.self.inside.unsettled.items c.first.result c.in-Some.time (sym c.copied.ensures ∙ c.in-Some.is) c.first.ensures.some in
    let can = rw (← c.self.view_is) at c.if-not-may_settle.ensures.0 in
    rw (← c.self.view_is) (IfSome_then c.pop_first.result c.pop_first.ensures.some (λ x e log i.
    let same = is_first c.self.inside.unsettled.items c.in-Some.time x c.pop_first.new.self.items first e in
    settled_on o log c.args.owners.now c.args.seen.now m i x c.pop_first.new.self.items e c.self.invariant.1 (subst (λ (u : ℕ). CanSettle c.args.owners.now c.args.seen.now m u) same (can refl)) c.pop_first.new.self.room))
