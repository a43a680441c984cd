-- The records of both plans fit.
use Rattle.std.proofs.Common.{◌++◌, ◌∙◌, List, ap}
use Rattle.mp_names.specs.declared.controls.Control.{Control}
use Rattle.mp_plans.specs.Plans.{all_at_once_records, fluid_records}
use Rattle.mp_command.proofs.TwoMoves.{two_moves_fit}
use Rattle.mp_command.proofs.samples.two_moves.Goals as goal

pub returns-clause-fit : goal.returns-clause-fit
returns-clause-fit c =
    let first = all_at_once_records c.args.shape 600 0 1 in
    let second = fluid_records c.args.shape 1200 30 0 2 in
    let start = c.in_ok-all_at_once.ensures.appended ∙ ap (λ (list : List Control). list ++ first) c.new-controls.ensures.items in
    let whole = c.in_ok-fluid.ensures.appended ∙ ap (λ (list : List Control). list ++ second) start in
    record { few = c.in_ok-fluid.ensures.few; each = rw whole (two_moves_fit c.args.shape c.requires.workers c.requires.bins c.requires.stages) }

pub returns-clause-records : goal.returns-clause-records
returns-clause-records c =
    let first = all_at_once_records c.args.shape 600 0 1 in
    let second = fluid_records c.args.shape 1200 30 0 2 in
    let start = c.in_ok-all_at_once.ensures.appended ∙ ap (λ (list : List Control). list ++ first) c.new-controls.ensures.items in
    c.in_ok-fluid.ensures.appended ∙ ap (λ (list : List Control). list ++ second) start
