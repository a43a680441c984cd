use Rattle.mp_host.proofs.Told.{applies_group, query_keeps, whole_here}
use Rattle.mp_host.proofs.host.Host.apply.Goals as goal
use Rattle.mp_model.specs.Tables.{table_of}

pub apply_first-requires-clause-in_hand : goal.apply_first-requires-clause-in_hand
apply_first-requires-clause-in_hand g c = λ κs b.
    let laws = g.met.Q.Query g.world.𝓛 g.world.𝓜 g.world.𝓡 ((λ s x. x), (λ x. x), (λ x. x), λ x. x) in
    let job = g.J.Naming.job in
    let rules = job.values in
    (whole_here (table_of g.Q.Query.facts job) job (query_keeps g.Q.Query.facts job (laws.has_stages rules) (laws.posts_are_later rules) (laws.later_stages_post_nothing rules) laws.sums_fit) job c.args.self.now c.first_ready.ensures.hosted c.args.seen.now c.args.owners.now c.in-Some.time c.in-Some.key c.in-Some.ensures.some c.requires.informed).in_hand

pub apply_first-requires-clause-fits : goal.apply_first-requires-clause-fits
apply_first-requires-clause-fits g c = λ κs b.
    let laws = g.met.Q.Query g.world.𝓛 g.world.𝓜 g.world.𝓡 ((λ s x. x), (λ x. x), (λ x. x), λ x. x) in
    let job = g.J.Naming.job in
    let rules = job.values in
    (whole_here (table_of g.Q.Query.facts job) job (query_keeps g.Q.Query.facts job (laws.has_stages rules) (laws.posts_are_later rules) (laws.later_stages_post_nothing rules) laws.sums_fit) job c.args.self.now c.first_ready.ensures.hosted c.args.seen.now c.args.owners.now c.in-Some.time c.in-Some.key c.in-Some.ensures.some c.requires.informed).fits

pub returns-clause-outputs : goal.returns-clause-outputs
returns-clause-outputs g c =
    let laws = g.met.Q.Query g.world.𝓛 g.world.𝓜 g.world.𝓡 ((λ s x. x), (λ x. x), (λ x. x), λ x. x) in
    let job = g.J.Naming.job in
    let rules = job.values in
    let whole = whole_here (table_of g.Q.Query.facts job) job (query_keeps g.Q.Query.facts job (laws.has_stages rules) (laws.posts_are_later rules) (laws.later_stages_post_nothing rules) laws.sums_fit) job c.args.self.now c.first_ready.ensures.hosted c.args.seen.now c.args.owners.now c.in-Some.time c.in-Some.key c.in-Some.ensures.some c.requires.informed in
    let a = c.in_ok-apply_first.ensures in
    rw (a.group.0, a.group.1, ← whole.cell, ← whole.group) a.outputs

pub returns-clause-held : goal.returns-clause-held
returns-clause-held g c = λ log informed.
    let laws = g.met.Q.Query g.world.𝓛 g.world.𝓜 g.world.𝓡 ((λ s x. x), (λ x. x), (λ x. x), λ x. x) in
    let job = g.J.Naming.job in
    let rules = job.values in
    let a = c.in_ok-apply_first.ensures in
    rw (a.group.0, a.group.1) (applies_group (table_of g.Q.Query.facts job) job (query_keeps g.Q.Query.facts job (laws.has_stages rules) (laws.posts_are_later rules) (laws.later_stages_post_nothing rules) laws.sums_fit) job c.args.self.now c.first_ready.ensures.hosted c.args.seen.now c.args.owners.now log informed c.apply_first.new.self c.in-Some.time c.in-Some.key _ c.in-Some.ensures.some a.applied a.woke)
