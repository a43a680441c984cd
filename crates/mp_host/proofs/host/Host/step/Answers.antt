use Rattle.std.proofs.Common.{◌≡◌, ◌∙◌, All, Contains, ap, false, refl, sym, true}
use Rattle.std.proofs.lemmas.List.Elements.{All-contains_itself, All-drop, All-weaker}
use Rattle.mp_names.specs.Names.{is_before}
use Rattle.mp_model.specs.declared.record.Rec.{Rec}
use Rattle.mp_model.specs.Facts.{JobFacts}
use Rattle.mp_model.specs.Tables.{table_of}
use Rattle.mp_msg.specs.Contents.{IsRecordOf}
use Rattle.mp_postdated.specs.Wakes.{Has}
use Rattle.mp_ordered.specs.InOrder.{IsInOrder}
use Rattle.mp_ordered.proofs.Placing.{pairs_drop}
use Rattle.mp_host_laws.specs.Hosted.{group_rank}
use Rattle.mp_host_laws.proofs.Waiting.{state_wakes}
use Rattle.mp_host.specs.Hosts.{hosted_of}
use Rattle.mp_host.proofs.Grouped.{cell_here, found_here, gives_all, group_applied, group_is, stepped_fit, stepped_here, table_stepped}
use Rattle.mp_host.proofs.Kept.{hosted_still}
use Rattle.mp_host.proofs.Told.{none_before, query_keeps}
use Rattle.mp_host.proofs.host.Host.step.Goals as goal

pub first_records-recs-requires : goal.first_records-recs-requires
first_records-recs-requires g c =
    let laws = g.met.Q.Query g.world.𝓛 g.world.𝓜 g.world.𝓡 ((λ s x. x), (λ x. x), (λ x. x), λ x. x) in
    let job = g.J.Naming.job in
    let rules = job.values in
    none_before (table_of g.Q.Query.facts job) job (query_keeps g.Q.Query.facts job (laws.has_stages rules) (laws.posts_are_later rules) (laws.later_stages_post_nothing rules) laws.sums_fit) _ _ c.self.invariant c.args.time c.args.key (rw (← c.self.view_is) at c.requires.first)

pub step_group-requires-clause-in_hand : goal.step_group-requires-clause-in_hand
step_group-requires-clause-in_hand g c = λ κs b.
    let i = c.self.inside in
    let h = hosted_of i.stage i.worker i.records i.states in
    let bins = i.each_bin ∙ ap (λ (j : JobFacts). j.shape.bins) c.self.invariant.run in
    rw c.new-group.ensures (found_here h i.states refl bins c.args.time c.args.key (rw (← c.self.view_is) at c.requires.in_hand))

pub step_group-requires-clause-fits : goal.step_group-requires-clause-fits
step_group-requires-clause-fits g c = λ κs b.
    let job = g.J.Naming.job in
    let q = table_of g.Q.Query.facts job in
    let i = c.self.inside in
    let h = hosted_of i.stage i.worker i.records i.states in
    let rules = c.query-query.ensures ∙ ap (λ (j : JobFacts). j.values) c.self.invariant.run in
    let bins = i.each_bin ∙ ap (λ (j : JobFacts). j.shape.bins) c.self.invariant.run in
    let woken = rw (← c.self.view_is) at c.is_first_woken-woken.ensures in
    let is = group_is h c.args.time c.args.key c.new-group.result _ _ c.new-group.ensures woken c.first_records-recs.ensures.records in
    let cell = cell_here h i.states refl bins (q.fresh i.stage) c.args.time c.args.key in
    let fits = rw (← c.self.view_is) at c.requires.fits in
    rw (rules, is, cell) fits

pub step_group-requires-clause-woken : goal.step_group-requires-clause-woken
step_group-requires-clause-woken g c = λ κs b.
    let i = c.self.inside in
    let h = hosted_of i.stage i.worker i.records i.states in
    let woken = rw (← c.self.view_is) at c.is_first_woken-woken.ensures in
    rw c.new-group.ensures (All-weaker (Contains h.held) (λ s. Has s.state.wakes c.args.time c.args.key → c.is_first_woken-woken.result ≡ true) (λ s there has. woken ∙ state_wakes h c.args.time c.args.key s there has) h.held (All-contains_itself h.held))

pub invariant_of-self-2 : goal.invariant_of-self-2
invariant_of-self-2 g c =
    let job = g.J.Naming.job in
    let q = table_of g.Q.Query.facts job in
    let i = c.self.inside in
    let h = hosted_of i.stage i.worker i.records i.states in
    let hosted = c.self.invariant in
    let posts = rw (← c.self.view_is) at c.requires.posts in
    let rules = c.query-query.ensures ∙ ap (λ (j : JobFacts). j.values) hosted.run in
    let bins = i.each_bin ∙ ap (λ (j : JobFacts). j.shape.bins) hosted.run in
    let woken = rw (← c.self.view_is) at c.is_first_woken-woken.ensures in
    let is = group_is h c.args.time c.args.key c.new-group.result _ _ c.new-group.ensures woken c.first_records-recs.ensures.records in
    let stepped = stepped_here q h c.args.time c.args.key i.states bins _ is _ posts (table_stepped g.Q.Query.facts job _ _ _ (rw rules at c.in_ok-outputs.ensures.stepped)) in
    let content : All (IsRecordOf q job i.stage) c.drop_first.new.self.items = rw c.drop_first.ensures.items (All-drop (IsRecordOf q job i.stage) _ i.records.items hosted.order.content) in
    let order : IsInOrder group_rank c.drop_first.new.self.items = rw c.drop_first.ensures.items (pairs_drop (λ (x y : Rec). is_before (group_rank y) (group_rank x) ≡ false) _ i.records.items hosted.order.records) in
    hosted_still q job _ h c.drop_first.new.self.items _ _ _ hosted content order (stepped_fit q job _ h hosted c.args.time c.args.key _ stepped)

pub returns-clause-applied : goal.returns-clause-applied
returns-clause-applied g c =
    let job = g.J.Naming.job in
    let q = table_of g.Q.Query.facts job in
    let i = c.self.inside in
    let h = hosted_of i.stage i.worker i.records i.states in
    let posts = rw (← c.self.view_is) at c.requires.posts in
    let rules = c.query-query.ensures ∙ ap (λ (j : JobFacts). j.values) c.self.invariant.run in
    let bins = i.each_bin ∙ ap (λ (j : JobFacts). j.shape.bins) c.self.invariant.run in
    let woken = rw (← c.self.view_is) at c.is_first_woken-woken.ensures in
    let is = group_is h c.args.time c.args.key c.new-group.result _ _ c.new-group.ensures woken c.first_records-recs.ensures.records in
    let stepped = stepped_here q h c.args.time c.args.key i.states bins _ is _ posts (table_stepped g.Q.Query.facts job _ _ _ (rw rules at c.in_ok-outputs.ensures.stepped)) in
    rw (← c.self.view_is) (group_applied q job _ h c.self.invariant c.args.time c.args.key _ stepped _ refl refl (c.drop_first.ensures.items ∙ c.first_records-recs.ensures.others) refl)

pub returns-clause-outputs : goal.returns-clause-outputs
returns-clause-outputs g c =
    let job = g.J.Naming.job in
    let q = table_of g.Q.Query.facts job in
    let i = c.self.inside in
    let h = hosted_of i.stage i.worker i.records i.states in
    let rules = c.query-query.ensures ∙ ap (λ (j : JobFacts). j.values) c.self.invariant.run in
    let bins = i.each_bin ∙ ap (λ (j : JobFacts). j.shape.bins) c.self.invariant.run in
    let woken = rw (← c.self.view_is) at c.is_first_woken-woken.ensures in
    let is = group_is h c.args.time c.args.key c.new-group.result _ _ c.new-group.ensures woken c.first_records-recs.ensures.records in
    let cell = cell_here h i.states refl bins (q.fresh i.stage) c.args.time c.args.key in
    rw (← c.self.view_is, ← cell) ((rw (rules, is) at c.in_ok-outputs.ensures.outputs) ∙ sym (gives_all g.Q.Query.facts job i.stage _ _ c.requires.early))
