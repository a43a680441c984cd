use Rattle.std.proofs.Common.{◌∙◌, ap}
use Rattle.std.proofs.lemmas.Result.{err_from_is_err_and}
use Rattle.mp_control.specs.Settings.{Said}
use Rattle.mp_control.proofs.SaidSteps.{fails_first}
use Rattle.mp_control.proofs.said.SaidSoFar.first_on.Goals as goal

pub returns-in_err-first : goal.returns-in_err-first
returns-in_err-first c =
    let same = c.shape.ensures ∙ ap (λ (s : Said). s.shape) c.self.view_is in
    let p = err_from_is_err_and c.from_residual.result c.from_residual.ensures.1 in
    rw (p.1, p.2) (fails_first c.args.self.now c.shape.result c.args.fields.now c.in_err-first.field-0.0 same c.in_err-first.ensures)
