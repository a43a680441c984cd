-- The records of a group are those whose names have its time and key.
use Rattle.std.proofs.Common.{◌≡◌, ℕ, ◌<◌, ◌==◌, Any, Contains, sym, ◌∙◌, subst}
use Rattle.std.proofs.lemmas.Bool.{eq-eqb, eqb-true}
use Rattle.std.proofs.lemmas.List.Elements.{All-contains_itself, All-weaker}
use Rattle.mp_names.specs.declared.names.Name.TheVariants.{Rec as RecName}
use Rattle.mp_names.specs.declared.names.Tag.{Tag}
use Rattle.mp_names.specs.Names.{In}
use Rattle.mp_names.proofs.NameParts.{same_parts}
use Rattle.mp_model.specs.declared.record.Rec.{Rec}
use Rattle.mp_model.specs.Entry.{Entry}
use Rattle.mp_model.specs.Facts.{JobFacts, QueryFacts}
use Rattle.mp_model.specs.Folds.{of_key}
use Rattle.mp_model.specs.Stages.{stage_records}
use Rattle.mp_job.proofs.Members.{Contains-filter, filter-Contains}
use Rattle.mp_outline.specs.JobOutline.{record_names}
use Rattle.mp_outline.specs.Laws.{group_at, GroupsFollowTags, GroupsHoldNames, RecordsInOrder, TagIsBefore, timeline_of, TimelinesRise}
use Rattle.mp_outline.proofs.Found.{found, found_there}
use Rattle.mp_outline.proofs.Outputs.{group_is, timeline_rises}
use Rattle.mp_outline.proofs.Pairs.{AllPairs-Pairs, Pairs-filter, Pairs-within}
use Rattle.mp_outline.proofs.Records.{records_in_order}
use Rattle.mp_outline.proofs.Stages.{name_stands, record_named}

module _ {Cell : Type 0} (q : QueryFacts Cell) (job : JobFacts) where
  -- a record of a group is a record of the stage with its time and key
  of_group : (j t k : ℕ) (r : Rec) → Contains (group_at q job j t k).recs r → Contains (stage_records q job.events j) r × (r.time ≡ t) × (r.key ≡ k)
  of_group j t k r h =
      let rs = stage_records q job.events j in
      let a = Contains-filter (λ (s : Rec). s.time == t) (of_key k rs) r h in
      let b = Contains-filter (λ (s : Rec). s.key == k) rs r a.0 in
      (b.0, eqb-true r.time t a.1, eqb-true r.key k b.1)

  -- and the other way round
  in_group : (j t k : ℕ) (r : Rec) → Contains (stage_records q job.events j) r → r.time ≡ t → r.key ≡ k → Contains (group_at q job j t k).recs r
  in_group j t k r h timed keyed =
      let rs = stage_records q job.events j in
      let own = filter-Contains (λ (s : Rec). s.key == k) rs r h (eq-eqb r.key k keyed) in
      filter-Contains (λ (s : Rec). s.time == t) (of_key k rs) r own (eq-eqb r.time t timed)

  named_in_group : (j t k : ℕ) (g : Tag) → In (RecName j t k g) (record_names q job j) → Any (λ r. r.tag ≡ g) (group_at q job j t k).recs
  named_in_group j t k g h =
      let a = record_named q job j (RecName j t k g) h in
      let r = a.0 in
      let c = same_parts j j r.time t r.key k r.tag g a.2 in
      found_there (λ (s : Rec). s.tag ≡ g) (group_at q job j t k).recs r (in_group j t k r a.1 c.0 c.1) c.2

  group_named_in : (j t k : ℕ) (g : Tag) → j < job.shape.stages → Any (λ r. r.tag ≡ g) (group_at q job j t k).recs → In (RecName j t k g) (record_names q job j)
  group_named_in j t k g l h =
      let a = found (λ (s : Rec). s.tag ≡ g) (group_at q job j t k).recs h in
      let r = a.0 in
      let b = of_group j t k r a.1 in
      let timed = subst (λ (t : ℕ). In (RecName j t r.key r.tag) (record_names q job j)) b.1 (name_stands q job j r l b.0) in
      let keyed = subst (λ (k : ℕ). In (RecName j t k r.tag) (record_names q job j)) b.2 timed in
      subst (λ (g : Tag). In (RecName j t k g) (record_names q job j)) a.2 keyed

  pub groups_hold : GroupsHoldNames q job
  groups_hold j t k g l = (named_in_group j t k g, group_named_in j t k g l)

  pub groups_in_order : GroupsFollowTags q job
  groups_in_order j t k =
      let rs = stage_records q job.events j in
      let recs = (group_at q job j t k).recs in
      let kept = Pairs-filter RecordsInOrder (λ (s : Rec). s.time == t) (of_key k rs) (Pairs-filter RecordsInOrder (λ (s : Rec). s.key == k) rs (records_in_order q job.events j)) in
      AllPairs-Pairs
      (λ (r s : Rec). TagIsBefore r.tag s.tag)
      recs
      (Pairs-within RecordsInOrder (λ (r s : Rec). TagIsBefore r.tag s.tag) recs (λ r s i m less. less ((of_group j t k r i).1 ∙ sym (of_group j t k s m).1)) kept)

  pub timelines_rise : TimelinesRise q job
  timelines_rise j k =
      let rs = stage_records q job.events j in
      let timeline = timeline_of q job j k in (
        AllPairs-Pairs (λ (e f : Entry). e.time < f.time) timeline (timeline_rises q j k rs),
        All-weaker (Contains timeline) (λ (e : Entry). group_at q job j e.time k ≡ e) (λ e i. (group_is q j k rs e i).0) timeline (All-contains_itself timeline),
      )
