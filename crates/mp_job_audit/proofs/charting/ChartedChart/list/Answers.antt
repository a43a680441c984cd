use Rattle.std.proofs.Common.{◌∙◌, ap, subst}
use Rattle.mp_names.specs.Outlines.{Outline, OutlineIsSound}
use Rattle.mp_step_lists.specs.Tables.{TellsSteps}
use Rattle.mp_step_lists.proofs.Told.{told_list}
use Rattle.mp_job_audit.proofs.Telling.{told_but}
use Rattle.mp_job_audit.proofs.charting.ChartedChart.list.Goals as goal

pub returns-in_default : goal.returns-in_default
returns-in_default g c =
    let steps = c.self.inside.steps in
    let same = ap g.L.OutlineLists.outline c.self.view_is in
    c.list.ensures ∙ told_list (g.L.OutlineLists.outline c.args.self.now) (subst OutlineIsSound same c.self.invariant.sound) steps (subst (λ (o : Outline). TellsSteps o steps) same c.self.invariant.told) c.args.worker c.requires c.args.kind (told_but c.args.kind c.in_default.not-Apply c.in_default.not-SendRow)
