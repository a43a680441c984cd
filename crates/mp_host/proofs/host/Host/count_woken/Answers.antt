use Rattle.std.proofs.Common.{◌≤◌, ◌+◌, ◌∙◌, ap, length, arith}
use Rattle.mp_names.specs.Limits.{most_bytes, most_events}
use Rattle.mp_host_laws.specs.Hosted.{Hosted}
use Rattle.mp_host.specs.Waiting.{woken_keys}
use Rattle.mp_host.proofs.Kept.{of_the_run}
use Rattle.mp_host.proofs.Woken.{hosted_few, woken_step}
use Rattle.mp_host.proofs.host.Host.count_woken.Goals as goal
use Rattle.mp_model.specs.Tables.{table_of}

pub overflow_add-count : goal.overflow_add-count
overflow_add-count g c =
    let laws = g.met.Q.Query g.world.𝓛 g.world.𝓜 g.world.𝓡 ((λ s x. x), (λ x. x), (λ x. x), λ x. x) in
    let job = g.J.Naming.job in
    let few : length (woken_keys c.args.time c.args.self.now.held) ≤ most_events + most_bytes = rw (← c.self.view_is) (hosted_few (table_of g.Q.Query.facts job) (laws.later_stages_post_nothing job.values) job _ _ c.self.invariant c.args.time) in
    let items = c.as_slice-one-items.ensures ∙ ap (λ (h : Hosted g.row.Q-Cell.Denot). h.held) c.self.view_is in
    let inside = rw items at c.loop-at-test.true in
    let is = rw items at c.one-item.is in
    let step = woken_step c.args.time c.args.self.now.held c.loop-at.at c.one-item.result inside is in
    omega (arith, c.loop-at.invariant, c.count_new-count.ensures, step, few)

pub returns-clause-few : goal.returns-clause-few
returns-clause-few g c =
    let laws = g.met.Q.Query g.world.𝓛 g.world.𝓜 g.world.𝓡 ((λ s x. x), (λ x. x), (λ x. x), λ x. x) in
    let job = g.J.Naming.job in
    let few : length (woken_keys c.args.time c.args.self.now.held) ≤ most_events + most_bytes = rw (← c.self.view_is) (hosted_few (table_of g.Q.Query.facts job) (laws.later_stages_post_nothing job.values) job _ _ c.self.invariant c.args.time) in
    omega (arith, c.loop-at.invariant, few)

pub returns-clause-hosted : goal.returns-clause-hosted
returns-clause-hosted g c = of_the_run c.self.view_is c.self.invariant
