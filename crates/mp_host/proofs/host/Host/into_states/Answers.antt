use Rattle.mp_model.specs.Tables.{table_of}
use Rattle.mp_host.proofs.LastStates.{ends_with_last_states}
use Rattle.mp_host.proofs.Told.{query_keeps}
use Rattle.mp_host.proofs.host.Host.into_states.Goals as goal

pub returns-clause-last : goal.returns-clause-last
returns-clause-last g c =
    let laws = g.met.Q.Query g.world.𝓛 g.world.𝓜 g.world.𝓡 ((λ s x. x), (λ x. x), (λ x. x), λ x. x) in
    let job = g.J.Naming.job in
    let keeps = query_keeps g.Q.Query.facts job (laws.has_stages job.values) (laws.posts_are_later job.values) (laws.later_stages_post_nothing job.values) laws.sums_fit in
    rw (← c.self.view_is) (ends_with_last_states (table_of g.Q.Query.facts job) job keeps _ _ c.self.invariant)
