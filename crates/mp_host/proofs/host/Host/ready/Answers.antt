use Rattle.mp_host.proofs.Told.{query_keeps, ready_exact}
use Rattle.mp_host.proofs.host.Host.ready.Goals as goal
use Rattle.mp_model.specs.Tables.{table_of}

pub returns-clause-exact : goal.returns-clause-exact
returns-clause-exact g c = λ log informed knows.
    let laws = g.met.Q.Query g.world.𝓛 g.world.𝓜 g.world.𝓡 ((λ s x. x), (λ x. x), (λ x. x), λ x. x) in
    let job = g.J.Naming.job in
    let rules = job.values in
    ready_exact (table_of g.Q.Query.facts job) job (query_keeps g.Q.Query.facts job (laws.has_stages rules) (laws.posts_are_later rules) (laws.later_stages_post_nothing rules) laws.sums_fit) job c.args.self.now c.first_ready.ensures.hosted c.args.seen.now c.args.owners.now log informed knows c.first_ready.result c.first_ready.ensures.some c.first_ready.ensures.none
