use Rattle.mp_model.specs.Tables.{table_of}
use Rattle.mp_host.proofs.Kept.{of_the_run}
use Rattle.mp_host.proofs.Told.{applies_group, on_done, query_keeps, whole_here}
use Rattle.mp_host.proofs.host.Host.apply_ready.Goals as goal

pub apply_first-requires-clause-first : goal.apply_first-requires-clause-first
apply_first-requires-clause-first g c = λ κs b. c.requires.ready.2.first

pub apply_first-requires-clause-early : goal.apply_first-requires-clause-early
apply_first-requires-clause-early g c = λ κs b. c.requires.ready.2.early

pub apply_first-requires-clause-in_hand : goal.apply_first-requires-clause-in_hand
apply_first-requires-clause-in_hand g c = λ κs b.
    let laws = g.met.Q.Query g.world.𝓛 g.world.𝓜 g.world.𝓡 ((λ s x. x), (λ x. x), (λ x. x), λ x. x) in
    let job = g.J.Naming.job in
    let rules = job.values in
    let told = c.requires.ready in
    let hosted = of_the_run c.self.view_is c.self.invariant in
    (whole_here (table_of g.Q.Query.facts job) job (query_keeps g.Q.Query.facts job (laws.has_stages rules) (laws.posts_are_later rules) (laws.later_stages_post_nothing rules) laws.sums_fit) job c.args.self.now hosted told.0 told.1 c.args.group.time c.args.group.key told.2 told.3).in_hand

pub apply_first-requires-clause-fits : goal.apply_first-requires-clause-fits
apply_first-requires-clause-fits g c = λ κs b.
    let laws = g.met.Q.Query g.world.𝓛 g.world.𝓜 g.world.𝓡 ((λ s x. x), (λ x. x), (λ x. x), λ x. x) in
    let job = g.J.Naming.job in
    let rules = job.values in
    let told = c.requires.ready in
    let hosted = of_the_run c.self.view_is c.self.invariant in
    (whole_here (table_of g.Q.Query.facts job) job (query_keeps g.Q.Query.facts job (laws.has_stages rules) (laws.posts_are_later rules) (laws.later_stages_post_nothing rules) laws.sums_fit) job c.args.self.now hosted told.0 told.1 c.args.group.time c.args.group.key told.2 told.3).fits

pub returns-clause-outputs : goal.returns-clause-outputs
returns-clause-outputs g c =
    let laws = g.met.Q.Query g.world.𝓛 g.world.𝓜 g.world.𝓡 ((λ s x. x), (λ x. x), (λ x. x), λ x. x) in
    let job = g.J.Naming.job in
    let rules = job.values in
    let told = c.requires.ready in
    let hosted = of_the_run c.self.view_is c.self.invariant in
    let whole = whole_here (table_of g.Q.Query.facts job) job (query_keeps g.Q.Query.facts job (laws.has_stages rules) (laws.posts_are_later rules) (laws.later_stages_post_nothing rules) laws.sums_fit) job c.args.self.now hosted told.0 told.1 c.args.group.time c.args.group.key told.2 told.3 in
    rw (← whole.cell, ← whole.group) c.apply_first.ensures.outputs

pub returns-clause-held : goal.returns-clause-held
returns-clause-held g c =
    let laws = g.met.Q.Query g.world.𝓛 g.world.𝓜 g.world.𝓡 ((λ s x. x), (λ x. x), (λ x. x), λ x. x) in
    let job = g.J.Naming.job in
    let rules = job.values in
    let hosted = of_the_run c.self.view_is c.self.invariant in
    on_done c.apply_first.result c.apply_first.ensures.applied c.apply_first.ensures.woke
    (λ a applied woke log seen notes ready informed.
    applies_group (table_of g.Q.Query.facts job) job (query_keeps g.Q.Query.facts job (laws.has_stages rules) (laws.posts_are_later rules) (laws.later_stages_post_nothing rules) laws.sums_fit) job c.args.self.now hosted seen notes log informed c.apply_first.new.self c.args.group.time c.args.group.key _ ready applied woke)
