use Rattle.std.proofs.Common.{◌≡◌, ◌++◌, ◌∷◌, ◌∙◌, [], ℕ, Option, None, Some, ap, append-nil, if◌then◌else◌, is_some, option_map, option_to_list, sym}
use Rattle.std.specs.List.{flat_map}
use Rattle.mp_model.specs.declared.record.Event.{Event}
use Rattle.mp_model.specs.declared.record.Rec.{Rec}
use Rattle.mp_model.specs.declared.value.Value.{Value}
use Rattle.mp_model.specs.Facts.{QueryFacts}
use Rattle.mp_model.specs.Folds.{times_in}
use Rattle.mp_model.specs.Stages.{record_of}
use Rattle.mp_job.specs.Parts.{table_in}
use Rattle.mp_shares.specs.Records.{with_index}
use Rattle.mp_shares.proofs.Same.{same_list, same_then, same_twice, stands_still}
use Rattle.mp_shares.proofs.Sharing.{posts_made, times_made}
use Rattle.mp_job.proofs.gather.take_in.Goals as goal

abbrev with_value : Event → Value → Event
with_value e v = record { time = e.time; value = v }

-- an event makes a record where it has a key
module _ {Cell : Type 0} (q : QueryFacts Cell) (i : ℕ) (e : Event) (key : Option ℕ) (is : key ≡ q.key 0 e.time e.value) where
  abbrev rec : ℕ → Rec
  rec k = record { time = e.time; key = k; tag = record { 0 = 0; 1 = i }; value = e.value }

  made : (k : ℕ) → key ≡ Some k → record_of q i e ≡ Some (rec k)
  made k has = ap (λ (o : Option ℕ). option_map rec o) (sym is ∙ has)

  not_made : key ≡ None → record_of q i e ≡ None
  not_made has = ap (λ (o : Option ℕ). option_map rec o) (sym is ∙ has)

pub add_posts-requires : goal.add_posts-requires
add_posts-requires g c = stands_still c.args.posted.now.last c.args.times.now.items c.add_time.new.times.items _ c.requires.posted c.in_ok-add_time.ensures

pub returns-clause-times : goal.returns-clause-times
returns-clause-times g c =
    let q = table_in g.Q.Query.facts g.Q.Query.text_of (g.Q.Query.values c.args.source.now.query) c.args.source.now.stop c.args.source.now.opening in
    let old = c.args.times.now.items in
    let event = c.args.event.now in
    let posts = c.posts-posts.result in
    let all =
    times_made q c.args.index c.from.result c.in-Some.key event c.replace.result c.key.result old posts c.key.ensures c.in-Some.is c.from.ensures c.replace.ensures.value c.posts-posts.ensures
    in
    same_twice c.add_posts.new.times.items c.add_time.new.times.items (old ++ event.time ∷ []) posts _ c.in_ok-add_posts.ensures.times c.in_ok-add_time.ensures all

pub returns-clause-posts : goal.returns-clause-posts
returns-clause-posts g c =
    let q = table_in g.Q.Query.facts g.Q.Query.text_of (g.Q.Query.values c.args.source.now.query) c.args.source.now.stop c.args.source.now.opening in
    let all =
    posts_made q c.args.index c.from.result c.in-Some.key c.args.event.now c.replace.result c.key.result c.args.posted.now.times c.posts-posts.result c.key.ensures c.in-Some.is c.from.ensures c.replace.ensures.value c.posts-posts.ensures
    in
    same_then _ _ _ c.in_ok-add_posts.ensures.posts (same_list _ _ all)

pub returns-clause-shares : goal.returns-clause-shares
returns-clause-shares g c =
    let q = table_in g.Q.Query.facts g.Q.Query.text_of (g.Q.Query.values c.args.source.now.query) c.args.source.now.stop c.args.source.now.opening in
    let old = c.args.shares.now in
    c.in_ok-add_index.ensures
    ∙ ap (λ (o : Option Rec). if is_some o then with_index c.args.index old else old) (sym (made q c.args.index c.args.event.now c.key.result c.key.ensures c.in-Some.key c.in-Some.is))

pub returns-clause-posted : goal.returns-clause-posted
returns-clause-posted g c = c.in_ok-add_posts.ensures.posted

pub returns-clause-event : goal.returns-clause-event
returns-clause-event g c = ap (with_value c.args.event.now) c.replace.ensures.value

pub returns-in_default-clause-shares : goal.returns-in_default-clause-shares
returns-in_default-clause-shares g c =
    let q = table_in g.Q.Query.facts g.Q.Query.text_of (g.Q.Query.values c.args.source.now.query) c.args.source.now.stop c.args.source.now.opening in
    let old = c.args.shares.now in
    ap (λ (o : Option Rec). if is_some o then with_index c.args.index old else old) (sym (not_made q c.args.index c.args.event.now c.key.result c.key.ensures c.in_default.is))

pub returns-in_default-clause-times : goal.returns-in_default-clause-times
returns-in_default-clause-times g c =
    let q = table_in g.Q.Query.facts g.Q.Query.text_of (g.Q.Query.values c.args.source.now.query) c.args.source.now.stop c.args.source.now.opening in
    let old = c.args.times.now.items in
    same_list _ _ (sym (append-nil old) ∙ ap (λ (o : Option Rec). old ++ times_in q 0 (option_to_list o)) (sym (not_made q c.args.index c.args.event.now c.key.result c.key.ensures c.in_default.is)))

pub returns-in_default-clause-posts : goal.returns-in_default-clause-posts
returns-in_default-clause-posts g c =
    let q = table_in g.Q.Query.facts g.Q.Query.text_of (g.Q.Query.values c.args.source.now.query) c.args.source.now.stop c.args.source.now.opening in
    let old = c.args.posted.now.times in
    same_list _ _ (sym (append-nil old) ∙ ap (λ (o : Option Rec). old ++ flat_map (q.posts 0) (option_to_list o)) (sym (not_made q c.args.index c.args.event.now c.key.result c.key.ensures c.in_default.is)))
