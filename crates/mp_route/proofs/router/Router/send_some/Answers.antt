use Rattle.std.proofs.Common.{◌∙◌, ℕ, All, ap, drop, map, subst, sym, take}
use Rattle.std.proofs.Math.ListN.{take-append-drop}
use Rattle.mp_names.specs.declared.locations.Loc.TheVariants.{CtlMail}
use Rattle.mp_names.specs.declared.names.Name.{Name}
use Rattle.mp_names.specs.Frontiers.{HasPassed}
use Rattle.mp_stamps.specs.Seen.{seen_at}
use Rattle.mp_outline.specs.JobOutline.{name_of_record}
use Rattle.mp_msg.specs.Contents.{IsRecordOf}
use Rattle.mp_route.specs.Along.{along_with, goes_to}
use Rattle.mp_route.specs.Unsent.{MayGo}
use Rattle.mp_route.proofs.Bundling.{sends}
use Rattle.mp_route.proofs.Firsts.{goes_with_itself}
use Rattle.mp_route.proofs.Going.{first_is}
use Rattle.mp_route.proofs.Parted.{left_all}
use Rattle.mp_route.proofs.Sent.{all_sent, taken_out}
use Rattle.mp_route.proofs.router.Router.send_some.Goals as goal
use Rattle.mp_model.specs.Tables.{table_of}

pub take_along-requires-clause-first : goal.take_along-requires-clause-first
take_along-requires-clause-first g c =
    let s = c.self.inside in
    goes_with_itself c.args.owners.now c.along_with-along.result s.stage c.args.bins c.in-Some-first.first.now s.held.items c.along_with-along.ensures c.in-Some-first.ensures.some

pub invariant_of-self : goal.invariant_of-self
invariant_of-self g c =
    let job = g.J.Naming.job in
    let s = c.self.inside in
    (c.self.invariant.0, rw c.in_err-recs.ensures.unchanged c.self.invariant.1)

pub invariant_of-self-2 : goal.invariant_of-self-2
invariant_of-self-2 g c =
    let job = g.J.Naming.job in
    let q = table_of g.Q.Query.facts job in
    let s = c.self.inside in
    let t = c.in_ok-recs.ensures.taken in
    let P = IsRecordOf q job s.stage in
    let left = left_all (goes_to c.args.owners.now c.along_with-along.result) P (take t.looked s.held.items) (drop t.looked s.held.items) (subst (All P) (sym (take-append-drop t.looked s.held.items)) c.self.invariant.1) in
    (c.self.invariant.0, subst (All P) (sym t.left) left)

pub returns-clause-content : goal.returns-clause-content
returns-clause-content g c =
    let job = g.J.Naming.job in
    let q = table_of g.Q.Query.facts job in
    let s = c.self.inside in
    let seen = c.args.seen.now in
    let r = c.in-Some-first.first.now in
    let known = rw (← c.self.view_is) at c.requires.owners in
    let held = rw (← c.self.view_is) at c.requires.held in
    let free = rw (← c.self.view_is) at c.in-Some.ensures.some in
    let at = first_is s.held.items r c.in-Some._name s.stage c.in-Some-first.ensures.some (λ u. HasPassed (seen_at seen CtlMail) u.time) free in
    let along = c.along_with-along.ensures ∙ ap (λ (n : ℕ). along_with c.args.owners.now s.stage n r) c.requires.bins.1 in
    let is = sends q job s.stage r c.args.owners.now seen known at.1 c.take_along.new.held c.along_with-along.result along held.0 held.1 s.held c.in_ok-recs.recs.items c.in-Some-first.ensures.some c.self.invariant.1 c.first.ensures.in_order held.3 c.in_ok-recs.ensures.taken in
    rw c.new.ensures (is.bundle held.2)

pub returns-clause-may_go : goal.returns-clause-may_go
returns-clause-may_go g c =
    let job = g.J.Naming.job in
    let q = table_of g.Q.Query.facts job in
    let s = c.self.inside in
    let seen = c.args.seen.now in
    let r = c.in-Some-first.first.now in
    let known = rw (← c.self.view_is) at c.requires.owners in
    let free = rw (← c.self.view_is) at c.in-Some.ensures.some in
    let may = rw (← c.self.view_is) at c.in-Some.ensures.may_go in
    let at = first_is s.held.items r c.in-Some._name s.stage c.in-Some-first.ensures.some (λ u. HasPassed (seen_at seen CtlMail) u.time) free in
    let along = c.along_with-along.ensures ∙ ap (λ (n : ℕ). along_with c.args.owners.now s.stage n r) c.requires.bins.1 in
    rw (← c.self.view_is, c.new.ensures) (λ w log h.
    let is = sends q job s.stage r c.args.owners.now seen known at.1 c.take_along.new.held c.along_with-along.result along w log s.held c.in_ok-recs.recs.items c.in-Some-first.ensures.some c.self.invariant.1 c.first.ensures.in_order h c.in_ok-recs.ensures.taken in
    (name_of_record s.stage r, is.names, subst (λ (x : Name). MayGo q job w log s.stage seen x) (sym at.0) (may w log h)))

pub returns-clause-all_but : goal.returns-clause-all_but
returns-clause-all_but g c =
    let job = g.J.Naming.job in
    let q = table_of g.Q.Query.facts job in
    let s = c.self.inside in
    rw (← c.self.view_is, c.new.ensures) (λ w log h. taken_out q job w log s.stage c.args.owners.now c.along_with-along.result s.held c.take_along.new.held c.in_ok-recs.recs.items c.in_ok-recs.ensures.taken h)

pub returns-clause-unsent : goal.returns-clause-unsent
returns-clause-unsent g c =
    let job = g.J.Naming.job in
    let q = table_of g.Q.Query.facts job in
    let s = c.self.inside in
    rw (← c.self.view_is, c.new.ensures) (λ w log h.
    all_sent q job w log (map (name_of_record s.stage) c.in_ok-recs.recs.items) (record { stage = s.stage; held = c.take_along.new.held.items; room = c.take_along.new.held.room })
    (taken_out q job w log s.stage c.args.owners.now c.along_with-along.result s.held c.take_along.new.held c.in_ok-recs.recs.items c.in_ok-recs.ensures.taken h))
