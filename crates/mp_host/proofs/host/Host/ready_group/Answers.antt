use Rattle.mp_host.proofs.Enough.{most_holds, table_is_enough}
use Rattle.mp_host.proofs.Told.{none_by_log, query_keeps, whole_here}
use Rattle.mp_host.proofs.host.Host.ready_group.Goals as goal
use Rattle.mp_model.specs.Tables.{table_of}

pub returns-in_default-clause-none_by_log : goal.returns-in_default-clause-none_by_log
returns-in_default-clause-none_by_log g c = λ log informed knows.
    let laws = g.met.Q.Query g.world.𝓛 g.world.𝓜 g.world.𝓡 ((λ s x. x), (λ x. x), (λ x. x), λ x. x) in
    let job = g.J.Naming.job in
    let rules = job.values in
    none_by_log (table_of g.Q.Query.facts job) job (query_keeps g.Q.Query.facts job (laws.has_stages rules) (laws.posts_are_later rules) (laws.later_stages_post_nothing rules) laws.sums_fit) job c.args.self.now c.first_ready.ensures.hosted c.args.seen.now c.args.owners.now log informed knows c.in_default.ensures.none

pub most_of_first-most-requires-clause-in_hand : goal.most_of_first-most-requires-clause-in_hand
most_of_first-most-requires-clause-in_hand g c = λ κs b.
    let laws = g.met.Q.Query g.world.𝓛 g.world.𝓜 g.world.𝓡 ((λ s x. x), (λ x. x), (λ x. x), λ x. x) in
    let job = g.J.Naming.job in
    let rules = job.values in
    (whole_here (table_of g.Q.Query.facts job) job (query_keeps g.Q.Query.facts job (laws.has_stages rules) (laws.posts_are_later rules) (laws.later_stages_post_nothing rules) laws.sums_fit) job c.args.self.now c.first_ready.ensures.hosted c.args.seen.now c.args.owners.now c.in-Some.time c.in-Some.key c.in-Some.ensures.some c.requires.informed).in_hand

pub most_of_first-most-requires-clause-fits : goal.most_of_first-most-requires-clause-fits
most_of_first-most-requires-clause-fits g c = λ κs b.
    let laws = g.met.Q.Query g.world.𝓛 g.world.𝓜 g.world.𝓡 ((λ s x. x), (λ x. x), (λ x. x), λ x. x) in
    let job = g.J.Naming.job in
    let rules = job.values in
    (whole_here (table_of g.Q.Query.facts job) job (query_keeps g.Q.Query.facts job (laws.has_stages rules) (laws.posts_are_later rules) (laws.later_stages_post_nothing rules) laws.sums_fit) job c.args.self.now c.first_ready.ensures.hosted c.args.seen.now c.args.owners.now c.in-Some.time c.in-Some.key c.in-Some.ensures.some c.requires.informed).fits

pub returns-clause-enough : goal.returns-clause-enough
returns-clause-enough g c =
    let laws = g.met.Q.Query g.world.𝓛 g.world.𝓜 g.world.𝓡 ((λ s x. x), (λ x. x), (λ x. x), λ x. x) in
    let job = g.J.Naming.job in
    let rules = job.values in
    let whole = whole_here (table_of g.Q.Query.facts job) job (query_keeps g.Q.Query.facts job (laws.has_stages rules) (laws.posts_are_later rules) (laws.later_stages_post_nothing rules) laws.sums_fit) job c.args.self.now c.first_ready.ensures.hosted c.args.seen.now c.args.owners.now c.in-Some.time c.in-Some.key c.in-Some.ensures.some c.requires.informed in
    most_holds (table_of g.Q.Query.facts job) (table_is_enough g.Q.Query.facts job (laws.most_is_enough rules)) job c.args.self.now c.in-Some.time c.in-Some.key whole _ c.most_of_first-most.ensures
