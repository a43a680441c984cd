use Rattle.std.proofs.Common.{◌∙◌, ap, ℕ, ◌-◌}
use Rattle.mp_standing.proofs.Clear.{sees_given}
use Rattle.mp_standing.proofs.conditions.has_row.Goals as goal

pub returns : goal.returns
returns g c = λ x of at stands some.
    sees_given (g.C.Chart.outline c.args.chart.now) c.args.worker c.args.standing.now c.is_within.result x of c.groups_before.result c.count.result c.saturating_sub-last.result (c.groups_before.ensures x at) (c.saturating_sub-last.ensures ∙ ap (λ (n : ℕ). n - 1) c.stages.ensures.stages) c.count.ensures stands some c.is_within.ensures
