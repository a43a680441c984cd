use Rattle.std.proofs.Common.{All, sym, subst}
use Rattle.mp_parted.specs.Fitting.{FitsShape}
use Rattle.mp_parted.proofs.Fitting.{records_fit}
use Rattle.mp_step_lists.proofs.step_lists.StepLists.of.Goals as goal

pub parted-requires : goal.parted-requires
parted-requires g c =
    let o = g.L.OutlineLists.outline c.args.lists.now in
    subst (All (FitsShape o)) (sym c.records.ensures) (records_fit o c.are_sound.ensures.sound 0)
