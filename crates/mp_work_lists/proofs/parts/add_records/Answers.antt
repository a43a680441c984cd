use Rattle.std.proofs.Common.{ℕ, ◌∙◌, ap}
use Rattle.mp_names.specs.declared.locations.Loc.TheVariants.{Route, Mail}
use Rattle.mp_work_lists.specs.Parts.{names_at}
use Rattle.mp_work_lists.proofs.Joining.{records_joined, listed_once, source_of}
use Rattle.mp_work_lists.proofs.parts.add_records.Goals as goal

pub returns : goal.returns
returns g c =
    let o = g.L.OutlineLists.outline c.args.lists.now in
    let j = c.args.stage in
    let f = λ (t : ℕ). names_at t (o.records j) in
    let many = λ (t : ℕ). c.in_ok-times.ensures t ∙ ap (names_at t) c.records.ensures in
    records_joined o _ _ _ _ j
    (source_of j _ _ f _ _ c.deref.ensures.value many c.in_ok-add_source.ensures)
    (listed_once (Route j) _ _ f _ _ c.deref-2.ensures.value many c.in_ok-add_times.ensures)
    (listed_once (Mail j) _ _ f _ _ c.deref-3.ensures.value many c.in_ok-add_times-2.ensures)
