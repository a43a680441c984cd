use Rattle.std.proofs.Common.{◌≡◌, ◌∙◌, Some, ap, refl, subst, sym}
use Rattle.std.proofs.lemmas.Result.{err_from_is_err_and}
use Rattle.mp_control.specs.declared.list_owners.ListOwners.{ListOwners}
use Rattle.mp_control.specs.Drains.{AreListOwners}
use Rattle.mp_control.specs.Settings.{Said, layout_in}
use Rattle.mp_control.proofs.SaidSteps.{drain_is_bad, drain_is_kept, drain_is_said}
use Rattle.mp_control.proofs.said.SaidSoFar.add_drain.Goals as goal

some_is : (kept owners : ListOwners) → Some kept ≡ Some owners → kept ≡ owners
some_is kept owners e = cc

pub returns-in_err-append : goal.returns-in_err-append
returns-in_err-append c =
    let inside = c.self-2.inside in
    let view : Said = record { shape = inside.firsts.shape; version = inside.version; begun = inside.begun; late = inside.late; firsts = inside.firsts.firsts; values = inside.values; controls = inside.controls.items } in
    let e : view ≡ c.args.self.now = c.self-2.view_is ∙ c.take_owners.ensures.same in
    let same = c.shape-shape.ensures ∙ ap (λ (s : Said). s.shape) (c.self.view_is ∙ sym e) in
    let of_layout = c.in_ok-kept.ensures.owners.of_layout ∙ ap layout_in (sym e) in
    let p = err_from_is_err_and c.from_residual-in_err-append.result c.from_residual-in_err-append.ensures.1 in
    rw (p.1, p.2)
    (drain_is_bad view c.shape-shape.result _ c.in-Ok.drain same of_layout c.args.fields.now c.in-Ok.ensures.0 c.in-Ok.ensures.1.0 c.args.self.now e c.in_err-append.field-0.0 c.in_err-append.ensures.answer)

pub invariant_of-self-2 : goal.invariant_of-self-2
invariant_of-self-2 c =
    let inside = c.self-2.inside in
    let view : Said = record { shape = inside.firsts.shape; version = inside.version; begun = inside.begun; late = inside.late; firsts = inside.firsts.firsts; values = inside.values; controls = inside.controls.items } in
    let e : view ≡ c.args.self.now = c.self-2.view_is ∙ c.take_owners.ensures.same in
    let same = c.shape-shape.ensures ∙ ap (λ (s : Said). s.shape) (c.self.view_is ∙ sym e) in
    let of_layout = c.in_ok-kept.ensures.owners.of_layout ∙ ap layout_in (sym e) in
    let kept : ListOwners = c.in_ok-kept.kept in
    let are = subst (λ (s : Said). AreListOwners (layout_in s) s.controls kept) (sym e) c.in_ok-kept.ensures.owners in
    let i = c.self-2.invariant in
    let both = drain_is_kept view c.shape-shape.result _ c.in-Ok.drain same of_layout kept c.append.new.list.items i.0 c.in-Ok.ensures.1.1.stage i.3 are
    c.in_ok-append.ensures.answer.0 c.in_ok-append.ensures.answer.1 in
    (i.0, i.1, i.2, both.0, λ owners is. (refl, subst (AreListOwners inside.firsts c.append.new.list.items) (some_is kept owners is) both.1))

pub returns : goal.returns
returns c =
    let inside = c.self-2.inside in
    let view : Said = record { shape = inside.firsts.shape; version = inside.version; begun = inside.begun; late = inside.late; firsts = inside.firsts.firsts; values = inside.values; controls = inside.controls.items } in
    let e : view ≡ c.args.self.now = c.self-2.view_is ∙ c.take_owners.ensures.same in
    let same = c.shape-shape.ensures ∙ ap (λ (s : Said). s.shape) (c.self.view_is ∙ sym e) in
    let of_layout = c.in_ok-kept.ensures.owners.of_layout ∙ ap layout_in (sym e) in
    drain_is_said view c.shape-shape.result _ c.in-Ok.drain same of_layout c.args.fields.now c.in-Ok.ensures.0 c.in-Ok.ensures.1.0 c.args.self.now e c.append.new.list.items
    c.in_ok-append.ensures.answer.0 c.in_ok-append.ensures.answer.1
