-- The records of a group are those of the stage with its time and key.
use Rattle.std.proofs.Common.{◌≡◌, ℕ, ◌==◌, Contains}
use Rattle.std.proofs.lemmas.Bool.{eq-eqb, eqb-true}
use Rattle.mp_model.specs.declared.record.Rec.{Rec}
use Rattle.mp_model.specs.Facts.{JobFacts, QueryFacts}
use Rattle.mp_model.specs.Folds.{of_key}
use Rattle.mp_model.specs.Stages.{stage_records}
use Rattle.mp_job.proofs.Members.{Contains-filter, filter-Contains}
use Rattle.mp_outline.specs.Laws.{group_at}

module _ {Cell : Type 0} (q : QueryFacts Cell) (job : JobFacts) where
  pub of_group : (j t k : ℕ) (r : Rec) → Contains (group_at q job j t k).recs r → Contains (stage_records q job.events j) r × (r.time ≡ t) × (r.key ≡ k)
  of_group j t k r h =
      let rs = stage_records q job.events j in
      let a = Contains-filter (λ (s : Rec). s.time == t) (of_key k rs) r h in
      let b = Contains-filter (λ (s : Rec). s.key == k) rs r a.0 in
      (b.0, eqb-true r.time t a.1, eqb-true r.key k b.1)

  pub in_group : (j t k : ℕ) (r : Rec) → Contains (stage_records q job.events j) r → r.time ≡ t → r.key ≡ k → Contains (group_at q job j t k).recs r
  in_group j t k r h timed keyed =
      let rs = stage_records q job.events j in
      let own = filter-Contains (λ (s : Rec). s.key == k) rs r h (eq-eqb r.key k keyed) in
      filter-Contains (λ (s : Rec). s.time == t) (of_key k rs) r own (eq-eqb r.time t timed)
