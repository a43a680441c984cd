use Rattle.std.proofs.Common.{◌≡◌, ◌++◌, ◌∷◌, ◌<◌, ◌∙◌, ℕ, List, ap, arith, filter, get_or, length, map, refl, set, subst, sym}
use Rattle.std.specs.List.{flat_map, range_with_len}
use Rattle.std.proofs.lemmas.List.{get_or_default, set-get_or}
use Rattle.std.proofs.lemmas.List.Elements.{All-get_or}
use Rattle.mp_model.specs.declared.record.Event.{Event}
use Rattle.mp_model.specs.declared.record.Rec.{Rec}
use Rattle.mp_model.specs.Folds.{times_in}
use Rattle.mp_model.specs.Legal.{EventIsLegal}
use Rattle.mp_model.specs.Stages.{input_records}
use Rattle.mp_job.specs.Parts.{table_in}
use Rattle.mp_shares.specs.Records.{is_taken_by}
use Rattle.mp_shares.specs.Times.{AllStandIn, PostedTimes}
use Rattle.mp_shares.proofs.Members.{nothing_in_nil}
use Rattle.mp_shares.proofs.Same.{same_list, same_then}
use Rattle.mp_shares.proofs.Sharing.{none_left, taken_in, times_added, times_from}
use Rattle.mp_job.proofs.gather.gather.Goals as goal

pub loop-index-preserved : goal.loop-index-preserved
loop-index-preserved g c =
    let q = table_in g.Q.Query.facts g.Q.Query.text_of (g.Q.Query.values c.args.source.now.query) c.args.source.now.stop c.args.source.now.opening in
    let events = c.args.events.now in
    let workers = length c.args.shares.now in
    let l = c.loop-index in
    let some = c.requires.some_worker in
    let given = c.index-events-index.result in
    let event = get_or l.events l.index given in
    let inside : l.index < length events = c.loop-index-test.true in
    let there : event ≡ get_or events l.index event = ap (λ xs. get_or xs l.index given) l.invariant.stay ∙ get_or_default events l.index given event inside in
    record {
      stay = ap (λ e. set l.events l.index e) c.in_ok-take_in.ensures.event ∙ set-get_or l.events l.index given ∙ l.invariant.stay;
      taken = taken_in q events workers some l.index event l.shares c.take_in.new.shares inside there l.invariant.taken c.in_ok-take_in.ensures.shares;
      added = times_added q (λ r. r.time ∷ q.posts 0 r) events l.index event l.times.items c.take_in.new.times.items (c.args.times.now.items ++ times_in q 0 (input_records q events)) inside there c.in_ok-take_in.ensures.times l.invariant.added;
      posts = times_added q (q.posts 0) events l.index event l.posted.times c.take_in.new.posted.times (flat_map (q.posts 0) (input_records q events)) inside there c.in_ok-take_in.ensures.posts l.invariant.posts;
      posted = c.in_ok-take_in.ensures.posted;
    }

pub returns-clause-times : goal.returns-clause-times
returns-clause-times g c =
    let q = table_in g.Q.Query.facts g.Q.Query.text_of (g.Q.Query.values c.args.source.now.query) c.args.source.now.stop c.args.source.now.opening in
    let l = c.loop-index in
    let times : Rec → List ℕ = λ r. r.time ∷ q.posts 0 r in
    let events = c.args.events.now in
    same_then l.times.items (l.times.items ++ times_from q times events l.index) (c.args.times.now.items ++ times_in q 0 (input_records q events)) (same_list l.times.items (l.times.items ++ times_from q times events l.index) (none_left q times c.args.events.now l.index l.times.items (omega (arith, c.loop-index-test.false)))) l.invariant.added

pub returns-clause-posts : goal.returns-clause-posts
returns-clause-posts g c =
    let q = table_in g.Q.Query.facts g.Q.Query.text_of (g.Q.Query.values c.args.source.now.query) c.args.source.now.stop c.args.source.now.opening in
    let l = c.loop-index in
    let events = c.args.events.now in
    same_then c.into_times.result.items (l.posted.times ++ times_from q (q.posts 0) events l.index) (flat_map (q.posts 0) (input_records q events))
    (same_list c.into_times.result.items (l.posted.times ++ times_from q (q.posts 0) events l.index) (c.into_times.ensures ∙ none_left q (q.posts 0) c.args.events.now l.index l.posted.times (omega (arith, c.loop-index-test.false)))) l.invariant.posts

pub loop-index-init : goal.loop-index-init
loop-index-init g c =
    let q = table_in g.Q.Query.facts g.Q.Query.text_of (g.Q.Query.values c.args.source.now.query) c.args.source.now.stop c.args.source.now.opening in
    let events = c.args.events.now in
    let old = c.args.times.now.items in
    let all = flat_map (q.posts 0) (input_records q events) in
    record {
      stay = refl;
      taken = c.requires.empty;
      added = same_list (old ++ times_in q 0 (input_records q events)) (old ++ times_in q 0 (input_records q events)) refl;
      posts = same_list (c.new-posted.result.times ++ all) all (ap (λ (p : PostedTimes). p.times ++ all) c.new-posted.ensures);
      posted = subst (λ (p : PostedTimes). AllStandIn p.last old) (sym c.new-posted.ensures) (λ t i. absurd (nothing_in_nil t i));
    }

pub take_in-requires-clause-in_time : goal.take_in-requires-clause-in_time
take_in-requires-clause-in_time g c κs within =
    let events = c.args.events.now in
    let l = c.loop-index in
    let given = c.index-events-index.result in
    let event = get_or l.events l.index given in
    let there : event ≡ get_or events l.index given = ap (λ xs. get_or xs l.index given) l.invariant.stay in
    let legal = All-get_or EventIsLegal events l.index given c.loop-index-test.true c.requires.legal.each in
    omega (arith, legal.in_time, ap (λ (e : Event). e.time) there)

pub take_in-requires-clause-some_worker : goal.take_in-requires-clause-some_worker
take_in-requires-clause-some_worker g c κs within = omega (arith, c.loop-index.auto.shares, c.requires.some_worker)

pub take_in-requires-clause-posted : goal.take_in-requires-clause-posted
take_in-requires-clause-posted g c κs within = c.loop-index.invariant.posted

pub returns-clause-shares : goal.returns-clause-shares
returns-clause-shares g c =
    let q = table_in g.Q.Query.facts g.Q.Query.text_of (g.Q.Query.values c.args.source.now.query) c.args.source.now.stop c.args.source.now.opening in
    let events = c.args.events.now in
    let workers = length c.args.shares.now in
    let l = c.loop-index in
    let end : l.index ≡ length events = omega (arith, c.loop-index-test.false, l.auto.index-end) in
    l.invariant.taken ∙ ap (λ (n : ℕ). map (λ w. filter (is_taken_by q events workers w) (range_with_len 0 n)) (range_with_len 0 workers)) end

pub returns-clause-events : goal.returns-clause-events
returns-clause-events g c = c.loop-index.invariant.stay
