use Rattle.std.proofs.Common.{◌≡◌, List, All, nat_lt, subst, sym, true}
use Rattle.mp_names.specs.declared.controls.Control.{Control}
use Rattle.mp_job.specs.Legal.{ControlsFit}
use Rattle.mp_job.proofs.Before.{earlier_are, earlier_fit}
use Rattle.mp_job.proofs.job.Job.until.Goals as goal

pub build-requires-clause-controls : goal.build-requires-clause-controls
build-requires-clause-controls g c κs within =
    subst (λ (cs : List Control). ControlsFit c.args.shape cs) (sym c.before-2.ensures) (earlier_fit c.args.shape c.args.time c.args.inputs.controls.items c.requires.controls)

pub build-requires-clause-count : goal.build-requires-clause-count
build-requires-clause-count g c κs within =
    subst (λ (cs : List Control). All (λ x. nat_lt x.time c.args.time ≡ true) cs) (sym c.before-2.ensures) (earlier_are c.args.time c.args.inputs.controls.items)
