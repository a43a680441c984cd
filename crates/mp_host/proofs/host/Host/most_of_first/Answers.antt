use Rattle.std.proofs.Common.{◌∙◌, ap, refl}
use Rattle.mp_model.specs.Facts.{JobFacts}
use Rattle.mp_model.specs.Tables.{table_of}
use Rattle.mp_host.specs.Hosts.{hosted_of}
use Rattle.mp_host.proofs.Enough.{cut_sum}
use Rattle.mp_host.proofs.Grouped.{cell_here, found_here, group_is}
use Rattle.mp_host.proofs.Told.{group_is_in_time, none_before, query_keeps}
use Rattle.mp_host.proofs.host.Host.most_of_first.Goals as goal

pub first_records-recs-requires : goal.first_records-recs-requires
first_records-recs-requires g c =
    let laws = g.met.Q.Query g.world.𝓛 g.world.𝓜 g.world.𝓡 ((λ s x. x), (λ x. x), (λ x. x), λ x. x) in
    let job = g.J.Naming.job in
    let rules = job.values in
    none_before (table_of g.Q.Query.facts job) job (query_keeps g.Q.Query.facts job (laws.has_stages rules) (laws.posts_are_later rules) (laws.later_stages_post_nothing rules) laws.sums_fit) _ _ c.self.invariant c.args.time c.args.key (rw (← c.self.view_is) at c.requires.first)

pub most_of_group-outputs-requires-clause-in_hand : goal.most_of_group-outputs-requires-clause-in_hand
most_of_group-outputs-requires-clause-in_hand g c = λ κs b.
    let i = c.self.inside in
    let h = hosted_of i.stage i.worker i.records i.states in
    let bins = i.each_bin ∙ ap (λ (j : JobFacts). j.shape.bins) c.self.invariant.run in
    rw c.new-group.ensures (found_here h i.states refl bins c.args.time c.args.key (rw (← c.self.view_is) at c.requires.in_hand))

pub most_of_group-outputs-requires-clause-fits : goal.most_of_group-outputs-requires-clause-fits
most_of_group-outputs-requires-clause-fits g c = λ κs b.
    let q = table_of g.Q.Query.facts g.J.Naming.job in
    let i = c.self.inside in
    let h = hosted_of i.stage i.worker i.records i.states in
    let rules = c.query-query.ensures ∙ ap (λ (j : JobFacts). j.values) c.self.invariant.run in
    let bins = i.each_bin ∙ ap (λ (j : JobFacts). j.shape.bins) c.self.invariant.run in
    let woken = rw (← c.self.view_is) at c.is_first_woken.ensures in
    let is = group_is h c.args.time c.args.key c.new-group.result _ _ c.new-group.ensures woken c.first_records-recs.ensures.records in
    let cell = cell_here h i.states refl bins (q.fresh i.stage) c.args.time c.args.key in
    let fits = rw (← c.self.view_is) at c.requires.fits in
    rw (rules, is, cell) fits

pub count_posts-requires-after_bounds : goal.count_posts-requires-after_bounds
count_posts-requires-after_bounds g c = λ κs b.
    let laws = g.met.Q.Query g.world.𝓛 g.world.𝓜 g.world.𝓡 ((λ s x. x), (λ x. x), (λ x. x), λ x. x) in
    let job = g.J.Naming.job in
    let rules = job.values in
    rw c.first_records-recs.ensures.records (group_is_in_time (table_of g.Q.Query.facts job) job (query_keeps g.Q.Query.facts job (laws.has_stages rules) (laws.posts_are_later rules) (laws.later_stages_post_nothing rules) laws.sums_fit) _ _ c.self.invariant c.args.time c.args.key)

pub returns : goal.returns
returns g c =
    let q = table_of g.Q.Query.facts g.J.Naming.job in
    let i = c.self.inside in
    let h = hosted_of i.stage i.worker i.records i.states in
    let rules = c.query-query.ensures ∙ ap (λ (j : JobFacts). j.values) c.self.invariant.run in
    let bins = i.each_bin ∙ ap (λ (j : JobFacts). j.shape.bins) c.self.invariant.run in
    let woken = rw (← c.self.view_is) at c.is_first_woken.ensures in
    let is = group_is h c.args.time c.args.key c.new-group.result _ _ c.new-group.ensures woken c.first_records-recs.ensures.records in
    let cell = cell_here h i.states refl bins (q.fresh i.stage) c.args.time c.args.key in
    let outputs = rw (rules, is) at c.most_of_group-outputs.ensures in
    let posts = rw (rules, c.first_records-recs.ensures.records) at c.count_posts.ensures in
    let sum = rw (outputs, posts) at c.saturating_add.ensures in
    rw (← c.self.view_is, ← cell) (sum ∙ cut_sum _ _ _)
