use Rattle.std.proofs.Common.{◌≡◌, ◌∙◌, ◌<◌, ◌≤◌, ℕ, List, Some, ap, get_or, subst, sym}
use Rattle.std.proofs.lemmas.List.{get_or_default}
use Rattle.mp_names.specs.Controls.{control_of}
use Rattle.mp_controller.specs.Controlling.{Controlling, IsControlling, IsLeft, index_at}
use Rattle.mp_controller.specs.Cursors.{place_after}
use Rattle.mp_controller.proofs.Latest.{moved_along, moved_later}
use Rattle.mp_controller.proofs.controller.Controller.before_at.Goals as goal

pub returns-then-last-self : goal.returns-then-last-self
returns-then-last-self c =
    let fields = c.self.inside in
    let inner : Controlling = record { controls = fields.controls.now; order = fields.order.items; next = fields.next; paced = fields.paced; shape = fields.shape } in
    let left = subst IsLeft (sym c.self.view_is) c.requires.left in
    let after = subst (λ (v : Controlling). c.args.next ≡ place_after v.shape.workers v.next) (sym c.self.view_is) c.requires.next in
    let time = λ (i : ℕ). (control_of fields.controls.now i).time in
    let here = c.index.ensures ∙ get_or_default inner.order inner.next.index c.index.result.now 0 left in
    let there = c.in-Some.ensures.lookup.3.1 0 ∙ ap (λ (xs : List ℕ). get_or xs c.args.next.index 0) c.deref.ensures.value in
    let near = subst (λ (i : ℕ). time i < time c.in-Some.following.now) here c.if-last-self.true in
    let less = subst (λ (i : ℕ). time (index_at inner.order inner.next.index) < time i) there near in
    let moved = moved_later inner fields.before c.self.invariant left c.args.next after c.if-next-self.false c.if-not-self.false less in
    let told = subst (λ (i : ℕ). IsControlling (record inner { next = c.args.next }) (Some (time i))) (sym here) moved in
    subst (λ (v : Controlling). IsControlling (record v { next = c.args.next }) (Some (time c.index.result.now))) c.self.view_is told

pub returns-else-last-self : goal.returns-else-last-self
returns-else-last-self c =
    let fields = c.self.inside in
    let inner : Controlling = record { controls = fields.controls.now; order = fields.order.items; next = fields.next; paced = fields.paced; shape = fields.shape } in
    let left = subst IsLeft (sym c.self.view_is) c.requires.left in
    let after = subst (λ (v : Controlling). c.args.next ≡ place_after v.shape.workers v.next) (sym c.self.view_is) c.requires.next in
    let time = λ (i : ℕ). (control_of fields.controls.now i).time in
    let here = c.index.ensures ∙ get_or_default inner.order inner.next.index c.index.result.now 0 left in
    let there = c.in-Some.ensures.lookup.3.1 0 ∙ ap (λ (xs : List ℕ). get_or xs c.args.next.index 0) c.deref.ensures.value in
    let near = subst (λ (i : ℕ). time c.in-Some.following.now ≤ time i) here c.if-last-self.false in
    let no_more = subst (λ (i : ℕ). time i ≤ time (index_at inner.order inner.next.index)) there near in
    let moved = moved_along inner fields.before c.self.invariant left c.args.next after c.if-next-self.false c.if-not-self.false no_more in
    subst (λ (v : Controlling). IsControlling (record v { next = c.args.next }) fields.before) c.self.view_is moved
