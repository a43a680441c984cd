use Rattle.mp_host.proofs.Told.{gets_back, query_keeps}
use Rattle.mp_host.proofs.host.Host.put_back.Goals as goal
use Rattle.mp_model.specs.Tables.{table_of}

pub returns-clause-held : goal.returns-clause-held
returns-clause-held g c = λ before log bin time.
    let laws = g.met.Q.Query g.world.𝓛 g.world.𝓜 g.world.𝓡 ((λ s x. x), (λ x. x), (λ x. x), λ x. x) in
    let job = g.J.Naming.job in
    let rules = job.values in
    gets_back (table_of g.Q.Query.facts job) job (query_keeps g.Q.Query.facts job (laws.has_stages rules) (laws.posts_are_later rules) (laws.later_stages_post_nothing rules) laws.sums_fit) job bin time c.args.one before _ _ c.hold.ensures log
