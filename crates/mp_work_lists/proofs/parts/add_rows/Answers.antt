use Rattle.std.proofs.Common.{ℕ, ◌∙◌, ap}
use Rattle.mp_names.specs.declared.locations.Loc.TheVariants.{OutRoute, OutMail}
use Rattle.mp_work_lists.specs.Parts.{names_at}
use Rattle.mp_work_lists.proofs.Joining.{rows_joined, listed_once}
use Rattle.mp_work_lists.proofs.parts.add_rows.Goals as goal

pub returns : goal.returns
returns g c =
    let o = g.L.OutlineLists.outline c.args.lists.now in
    let f = λ (t : ℕ). names_at t o.rows in
    let many = λ (t : ℕ). c.in_ok-times.ensures t ∙ ap (names_at t) c.rows.ensures in
    rows_joined o _ _ _ c.args.works.now.items
    (listed_once OutRoute _ _ f _ _ c.deref.ensures.value many c.in_ok-add_times.ensures)
    (listed_once OutMail _ _ f _ _ c.deref-2.ensures.value many c.in_ok-add_times-2.ensures)
