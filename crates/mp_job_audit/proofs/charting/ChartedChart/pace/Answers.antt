use Rattle.std.proofs.Common.{ap, subst}
use Rattle.mp_names.specs.Outlines.{Outline, OutlineIsSound}
use Rattle.mp_step_lists.specs.Tables.{TellsSteps}
use Rattle.mp_step_lists.proofs.Paced.{told_pace}
use Rattle.mp_job_audit.proofs.charting.ChartedChart.pace.Goals as goal

pub returns : goal.returns
returns g c = λ x stands.
    let steps = c.self.inside.steps in
    let same = ap g.L.OutlineLists.outline c.self.view_is in
    told_pace (g.L.OutlineLists.outline c.args.self.now) (subst OutlineIsSound same c.self.invariant.sound) steps (subst (λ (o : Outline). TellsSteps o steps) same c.self.invariant.told) c.args.place c.pace.result c.pace.ensures.paced c.pace.ensures.not_paced c.args._worker x stands
