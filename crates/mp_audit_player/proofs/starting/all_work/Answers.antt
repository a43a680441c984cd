use Rattle.std.proofs.Common.{◌∙◌}
use Rattle.mp_audit_player.proofs.Begun.{work_is}
use Rattle.mp_audit_player.proofs.starting.all_work.Goals as goal

pub of-requires-clause-there : goal.of-requires-clause-there
of-requires-clause-there g c =
    let o = g.C.Chart.outline c.args.chart.now in
    work_is o c.stages.result c.times.result.now c.work.result.now c.stages.ensures.stages c.times.ensures.all c.work.ensures.all c.work.ensures.there c.work.ensures.some

pub returns-clause-left : goal.returns-clause-left
returns-clause-left g c = λ a t. c.in_ok-left.ensures.left a t ∙ c.work.ensures.all a t
