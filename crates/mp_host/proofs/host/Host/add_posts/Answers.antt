use Rattle.mp_host.proofs.Told.{group_is_in_time, none_before, query_keeps}
use Rattle.mp_host.proofs.host.Host.add_posts.Goals as goal
use Rattle.mp_model.specs.Tables.{table_of}

pub first_records-recs-requires : goal.first_records-recs-requires
first_records-recs-requires g c =
    let laws = g.met.Q.Query g.world.𝓛 g.world.𝓜 g.world.𝓡 ((λ s x. x), (λ x. x), (λ x. x), λ x. x) in
    let job = g.J.Naming.job in
    let rules = job.values in
    none_before (table_of g.Q.Query.facts job) job (query_keeps g.Q.Query.facts job (laws.has_stages rules) (laws.posts_are_later rules) (laws.later_stages_post_nothing rules) laws.sums_fit) _ _ c.self.invariant c.args.time c.args.key (rw (← c.self.view_is) at c.requires.first)

pub add_posts-requires-after_bounds : goal.add_posts-requires-after_bounds
add_posts-requires-after_bounds g c = λ κs b.
    let laws = g.met.Q.Query g.world.𝓛 g.world.𝓜 g.world.𝓡 ((λ s x. x), (λ x. x), (λ x. x), λ x. x) in
    let job = g.J.Naming.job in
    let rules = job.values in
    rw c.first_records-recs.ensures.records (group_is_in_time (table_of g.Q.Query.facts job) job (query_keeps g.Q.Query.facts job (laws.has_stages rules) (laws.posts_are_later rules) (laws.later_stages_post_nothing rules) laws.sums_fit) _ _ c.self.invariant c.args.time c.args.key)
