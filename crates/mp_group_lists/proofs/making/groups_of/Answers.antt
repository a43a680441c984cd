-- The groups are those of a stage of the job.
use Rattle.std.proofs.Common.{◌∙◌, All, List, ap, map, subst, sym}
use Rattle.mp_names.specs.declared.names.Name.{Name}
use Rattle.mp_parted.specs.Fitting.{IsGroupInShape}
use Rattle.mp_parted.proofs.Fitting.{due_groups_fit}
use Rattle.mp_outline_lists.specs.Moments.{group_at}
use Rattle.mp_group_lists.proofs.making.groups_of.Goals as goal

pub due_groups-requires : goal.due_groups-requires
due_groups-requires g c = ap (map (group_at c.args.stage)) c.moments_at.ensures ∙ c.requires.moments c.args.stage c.requires.stage

pub parted-requires : goal.parted-requires
parted-requires g c =
    let o = g.L.OutlineLists.outline c.args.lists.now in
    subst (λ (xs : List Name). All (IsGroupInShape o) xs) (sym (c.deref.ensures.value ∙ c.in_ok-names.ensures)) (due_groups_fit o c.are_sound.ensures.sound c.args.stage)
