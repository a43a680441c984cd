-- The rows are those of the job.
use Rattle.std.proofs.Common.{◌∙◌, All, List, ap, subst, sym}
use Rattle.mp_names.specs.declared.names.Name.{Name}
use Rattle.mp_names.specs.Names.{ascending}
use Rattle.mp_parted.specs.Fitting.{FitsShape}
use Rattle.mp_parted.proofs.Fitting.{rows_fit}
use Rattle.mp_group_lists.proofs.Held.{ascending_fits}
use Rattle.mp_group_lists.proofs.making.rows_by_worker.Goals as goal

pub parted-requires : goal.parted-requires
parted-requires g c =
    let o = g.L.OutlineLists.outline c.args.lists.now in
    subst (λ (xs : List Name). All (FitsShape o) xs) (sym (c.deref.ensures.value ∙ c.in_ok-names.ensures ∙ ap ascending c.rows.ensures)) (ascending_fits o o.rows (rows_fit o c.are_sound.ensures.sound))
