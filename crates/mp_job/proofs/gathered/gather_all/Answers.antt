use Rattle.std.proofs.Common.{◌≡◌, ◌<◌, ◌++◌, ◌∙◌, List, [], ℕ, ap, arith, length, rules, subst, sym}
use Rattle.mp_model.specs.Folds.{times_in}
use Rattle.mp_model.specs.Stages.{input_records}
use Rattle.mp_shares.specs.Records.{shares_of}
use Rattle.mp_shares.specs.Times.{HoldSame, control_times}
use Rattle.mp_shares.proofs.Same.{ascending-same, same_before}
use Rattle.mp_shares.proofs.Sharing.{as_many, empty_there, length-shares, written_back}
use Rattle.mp_job.specs.Parts.{table_in}
use Rattle.mp_job.specs.Times.{opening_times}
use Rattle.mp_job.proofs.gathered.gather_all.Goals as goal

pub gather-requires-clause-empty : goal.gather-requires-clause-empty
gather-requires-clause-empty g c κs within = empty_there _ _ c.args.workers c.deref_mut.ensures.value c.in_ok-shares.ensures

pub gather-requires-clause-some_worker : goal.gather-requires-clause-some_worker
gather-requires-clause-some_worker g c κs within =
    let workers = as_many _ _ c.args.workers c.deref_mut.ensures.value c.in_ok-shares.ensures in
    subst (λ (n : ℕ). 0 < n) (sym workers) c.requires.some_worker

pub returns-clause-shares : goal.returns-clause-shares
returns-clause-shares g c =
    let q = table_in g.Q.Query.facts g.Q.Query.text_of (g.Q.Query.values c.args.source.now.query) c.args.source.now.stop c.args.source.now.opening in
    let events = c.args.events.now in
    let shares = c.gather.new.shares in
    let workers = as_many _ _ c.args.workers c.deref_mut.ensures.value c.in_ok-shares.ensures in
    let are : shares ≡ shares_of q events c.args.workers = c.in_ok-posts.ensures.shares ∙ ap (λ (n : ℕ). shares_of q events n) workers in
    written_back shares c.in_ok-shares.shares.items c.in_ok-shares.shares.len (omega (arith, c.in_ok-shares.shares.ok.0)) (length-shares q events shares c.args.workers are ∙ sym workers ∙ ap length c.deref_mut.ensures.value) ∙ are

pub returns-clause-times : goal.returns-clause-times
returns-clause-times g c =
    let q = table_in g.Q.Query.facts g.Q.Query.text_of (g.Q.Query.values c.args.source.now.query) c.args.source.now.stop c.args.source.now.opening in
    let own = times_in q 0 (input_records q c.args.events.now) in
    let gathered = c.gather.new.times.items in
    let none : c.new-times.result.items ≡ [] = search rules in
    let same : HoldSame gathered own = subst (λ (ts : List ℕ). HoldSame gathered (ts ++ own)) none c.in_ok-posts.ensures.times in
    let by_control = same_before gathered own (control_times c.args.controls.now) same in
    c.in_ok-add_other_times.ensures ∙ ascending-same _ _ (same_before _ _ (opening_times c.args.source.now.opening) by_control)

pub returns-clause-posts : goal.returns-clause-posts
returns-clause-posts g c =
    c.in_ok-post_times.ensures ∙ ap length (ascending-same _ _ (same_before _ _ (opening_times c.args.source.now.opening) c.in_ok-posts.ensures.posts))

pub gather-requires-clause-legal : goal.gather-requires-clause-legal
gather-requires-clause-legal g c κs within = c.requires.legal

pub returns-clause-events : goal.returns-clause-events
returns-clause-events g c = c.in_ok-posts.ensures.events
