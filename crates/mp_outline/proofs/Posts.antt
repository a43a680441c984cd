-- The posts of a record: they are told by its name, and are later than it.
use Rattle.std.proofs.Common.{◌≡◌, ℕ, zero, suc, ◌<◌, Option, List, [], ◌∷◌, Contains, sym, ap, subst, ⊎_elim, arith}
use Rattle.std.specs.Option.{option_map_or}
use Rattle.std.proofs.lemmas.List.Elements.{All-contains}
use Rattle.mp_names.specs.Limits.{last_time}
use Rattle.mp_model.specs.declared.record.Event.{Event}
use Rattle.mp_model.specs.declared.record.Rec.{Rec}
use Rattle.mp_model.specs.Facts.{QueryFacts}
use Rattle.mp_model.specs.Legal.{EventsAreLegal}
use Rattle.mp_model.specs.QueryLaws.{LaterStagesPostNothing, PostsAreLater, RecordIsLegal, RisesWithin}
use Rattle.mp_model.specs.Stages.{input_records, stage_records}
use Rattle.mp_model.proofs.LegalRecords.{input_records_legal}
use Rattle.mp_job.proofs.Members.{nothing_in_nil, Contains-cases}
use Rattle.mp_outline.specs.JobOutline.{name_of_record, posts_of}
use Rattle.mp_outline.proofs.Records.{input_is}

-- times that rise within bounds are above the lower one
rises_above : (low high : ℕ) (ts : List ℕ) (u : ℕ) → RisesWithin low high ts → Contains ts u → low < u
rises_above low high [] u h i = absurd (nothing_in_nil u i)
rises_above low high (t ∷ ts) u h i =
    let less : low < t = h.0 in
    ⊎_elim
    (λ (e : t ≡ u). omega arith)
    (λ (k : Contains ts u). let more : t < u = rises_above t high ts u h.2 k in omega arith)
    (Contains-cases t u ts i)

module _ {Cell : Type 0} (q : QueryFacts Cell) (nothing : LaterStagesPostNothing q) (events : List Event) where
  -- the posts of a record's name are the record's
  pub posts_are : (j : ℕ) (r : Rec) → Contains (stage_records q events j) r → posts_of q events (name_of_record j r) ≡ q.posts j r
  posts_are zero r h = ap (λ (o : Option Rec). option_map_or (q.posts 0) o []) (input_is q events r h)
  posts_are (suc j) r h = sym (nothing j r)

module _ {Cell : Type 0} (q : QueryFacts Cell) (later : PostsAreLater q) (nothing : LaterStagesPostNothing q) (events : List Event) (legal : EventsAreLegal events) where
  -- each post is later than its record
  pub post_is_later : (j : ℕ) (r : Rec) (u : ℕ) → Contains (stage_records q events j) r → Contains (q.posts j r) u → r.time < u
  post_is_later zero r u h i = rises_above r.time last_time (q.posts 0 r) u (later r (All-contains RecordIsLegal (input_records q events) r (input_records_legal q events legal) h)) i
  post_is_later (suc j) r u h i = absurd (nothing_in_nil u (subst (λ (ts : List ℕ). Contains ts u) (nothing j r) i))
