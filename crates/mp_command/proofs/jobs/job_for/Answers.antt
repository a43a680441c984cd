-- The job has the query's own table.
use Rattle.std.proofs.lemmas.Result.{IfOk-weaker}
use Rattle.mp_control.specs.Settings.{settings_in}
use Rattle.mp_model.specs.Rules.{numbers_with}
use Rattle.mp_command.specs.Config.{shape_with}
use Rattle.mp_command.proofs.Asked.{own_table}
use Rattle.mp_command.proofs.jobs.job_for.Goals as goal

pub returns-clause-table : goal.returns-clause-table
returns-clause-table g c =
    let laws = g.met.Q.Query g.world.𝓛 g.world.𝓜 g.world.𝓡 ((λ s x. x), (λ x. x), (λ x. x), λ x. x) in
    let settings = settings_in c.args.parts.settings in
    let numbers = numbers_with (g.Q.Query.rules c.args.given) (g.Q.Query.values c.args.given) settings.values in
    let shape = shape_with c.args.workers c.args.bins (g.Q.Query.facts (g.Q.Query.values c.args.given)).stages in
    let plan = c.job_plan-query.ensures in
    IfOk-weaker c.with_firsts.result _ _
    (λ job made. own_table g.Q.Query.facts shape numbers c.args.parts.events.items settings job (laws.begins_fresh numbers)
    (rw (plan.query, plan.events, plan.controls, plan.firsts, plan.shape) at made))
    c.with_firsts.ensures
