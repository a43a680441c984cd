use Rattle.std.proofs.Common.{ℕ, ◌∙◌, ap}
use Rattle.mp_names.specs.declared.locations.Loc.TheVariants.{Ctl, CtlMail}
use Rattle.mp_work_lists.specs.Parts.{controls_at}
use Rattle.mp_work_lists.proofs.Joining.{controls_joined, listed_each}
use Rattle.mp_work_lists.proofs.parts.add_controls.Goals as goal

pub returns : goal.returns
returns g c =
    let o = g.L.OutlineLists.outline c.args.lists.now in
    let f = λ (t : ℕ). controls_at t o.controls in
    let many = λ (t : ℕ). c.in_ok-times.ensures t ∙ ap (controls_at t) c.controls.ensures.controls in
    controls_joined o _ _ _ c.args.works.now.items
    (listed_each Ctl _ _ _ _ f _ _ c.workers-workers.ensures.workers c.deref.ensures.value many c.in_ok-add_times.ensures)
    (listed_each CtlMail _ _ _ _ f _ _ c.workers-workers.ensures.workers c.deref-2.ensures.value many c.in_ok-add_times-2.ensures)
