-- What follows for a legal job.
use Rattle.std.proofs.Common.{◌≡◌, ◌∙◌, ap, ℕ, ◌<◌, Option, None, Some, List, [], All, option_map, slice_get, subst, sym}
use Rattle.std.proofs.lemmas.Nat.{pow_pos}
use Rattle.std.proofs.lemmas.Option.{get_or_from_slice_get, option_and_then_some, slice_get_within}
use Rattle.mp_model.specs.declared.record.Event.{Event}
use Rattle.mp_model.specs.declared.record.Rec.{Rec}
use Rattle.mp_model.specs.Facts.{JobFacts, QueryFacts, SavedState}
use Rattle.mp_model.specs.Legal.{EventIsLegal, EventsAreLegal}
use Rattle.mp_model.specs.QueryLaws.{HasStages, RecordIsLegal}
use Rattle.mp_model.specs.Stages.{record_of}
use Rattle.mp_opening.specs.Below.{IsShape}
use Rattle.mp_model.specs.Tables.{opening_wakes}
use Rattle.mp_job.specs.Legal.{JobIsLegal, KeepsToJob}
use Rattle.mp_job.specs.Records.{record_at}

module _ {Cell : Type 0} (q : QueryFacts Cell) where
  -- the record of a legal event is legal
  pub record_is_legal : (i : ℕ) (e : Event) (r : Rec) → EventIsLegal e → record_of q i e ≡ Some r → RecordIsLegal r
  record_is_legal i e r legal is = from (q.key 0 e.time e.value) is
    where
      from : (key : Option ℕ) → option_map (λ k. record { time = e.time; key = k; tag = record { 0 = 0; 1 = i }; value = e.value }) key ≡ Some r → RecordIsLegal r
      from None f = absurd (cc f)
      from (Some k) f = let same : record { time = e.time; key = k; tag = record { 0 = 0; 1 = i }; value = e.value } ≡ r = cc f in subst RecordIsLegal same (record { in_time = legal.in_time; legal = legal.legal })

  -- the record at an index is
  pub record_at_is_legal : (events : List Event) (i : ℕ) (r : Rec) → EventsAreLegal events → record_at q events i ≡ Some r → RecordIsLegal r
  record_at_is_legal events i r legal is = option_and_then_some (record_of q i) (slice_get events i) r is (λ e there made. record_is_legal i e r (get events i e legal.each there) made)
    where
      get : (events : List Event) (i : ℕ) (e : Event) → All EventIsLegal events → slice_get events i ≡ Some e → EventIsLegal e
      get events i e all there = rw (get_or_from_slice_get events i e e there) at (all i e (slice_get_within events i e there))

  -- no stage of a job that goes on from no saved state begins with wakes
  pub begins_unwoken : (job : JobFacts) → KeepsToJob q job → job.from ≡ None → (j : ℕ) → q.waking j ≡ []
  begins_unwoken job keeps from j = keeps.waking j ∙ ap (λ (f : Option SavedState). opening_wakes f j) from

  -- there is a worker, a bin and a stage
  pub shape_is_some : (job : JobFacts) → HasStages q → JobIsLegal q job → IsShape job.shape
  shape_is_some job stages legal =
      let power = legal.shape.bins in
      let some_bin : 0 < job.shape.bins = subst (λ (n : ℕ). 0 < n) (sym power.2) (pow_pos power.0) in
      let some_stage : 0 < job.shape.stages = subst (λ (n : ℕ). 0 < n) (sym legal.stages) stages.0 in
      (legal.shape.some_worker, some_bin, some_stage)
