-- What stands among the records of a stage, and in which order.
use Rattle.std.proofs.Common.{◌≡◌, ℕ, zero, suc, ◌<◌, Option, Some, None, List, option_map, option_and_then, slice_get, Contains, sym, ap, ◌∙◌, subst, subst₂, inr, ⊎_elim, ◌⊎◌, arith, zero-add}
use Rattle.std.specs.List.{enumerate_from}
use Rattle.std.proofs.lemmas.Option.{none-some, option_and_then_some, same_Some}
use Rattle.mp_names.specs.declared.names.Tag.{Tag}
use Rattle.mp_model.specs.declared.record.Event.{Event}
use Rattle.mp_model.specs.declared.record.Output.{Output}
use Rattle.mp_model.specs.declared.record.Rec.{Rec}
use Rattle.mp_model.specs.Facts.{QueryFacts}
use Rattle.mp_model.specs.Folds.{stage_outputs}
use Rattle.mp_model.specs.Stages.{input_records, record_of, record_of_output, stage_records}
use Rattle.mp_job.specs.Records.{record_at}
use Rattle.mp_outline.specs.Laws.{OutputsInOrder, RecordsInOrder, TagIsBefore}
use Rattle.mp_outline.proofs.FilterMaps.{made, maker}
use Rattle.mp_outline.proofs.Enumerated.{placed_at, stands_placed}
use Rattle.mp_outline.proofs.Pairs.{Pairs, Pairs-two, Pairs-weaker}
use Rattle.mp_outline.proofs.PairsMade.{Pairs-filter_map, places_rise}
use Rattle.mp_outline.proofs.Outputs.{HasGroup, output_is, stage_outputs_in_order}
use Rattle.mp_outline.proofs.Tags.{tag_irreflexive}

-- the tag of the record of an event holds the event's index, whatever the key is
event_tag : (key : Option ℕ) (i : ℕ) (e : Event) (r : Rec) → option_map (λ k. record { time = e.time; key = k; tag = record { 0 = 0; 1 = i }; value = e.value }) key ≡ Some r → r.tag ≡ record { 0 = 0; 1 = i }
event_tag None i e r h = absurd (none-some r h)
event_tag (Some k) i e r h = ap (λ (s : Rec). s.tag) (sym (same_Some (record { time = e.time; key = k; tag = record { 0 = 0; 1 = i }; value = e.value }) r h))

-- a record has the time and the tag of the output that made it, whatever its key is
output_parts : (key : Option ℕ) (o : Output) (r : Rec) → option_map (λ k. record { time = o.time; key = k; tag = o.tag; value = o.value }) key ≡ Some r → (r.time ≡ o.time) × (r.tag ≡ o.tag)
output_parts None o r h = absurd (none-some r h)
output_parts (Some k) o r h =
    let e = sym (same_Some (record { time = o.time; key = k; tag = o.tag; value = o.value }) r h) in
    (ap (λ (s : Rec). s.time) e, ap (λ (s : Rec). s.tag) e)

-- as in stage 0: one first number, and rising indices
abbrev pub ByIndex : Rec → Rec → Type 0
ByIndex r s = (r.tag.0 ≡ s.tag.0) × (r.tag.1 < s.tag.1)

module _ {Cell : Type 0} (q : QueryFacts Cell) where
  tag_of_event : (i : ℕ) (e : Event) (r : Rec) → record_of q i e ≡ Some r → r.tag ≡ record { 0 = 0; 1 = i }
  tag_of_event i e r h = event_tag (q.key 0 e.time e.value) i e r h

  pub parts_of_output : (j : ℕ) (o : Output) (r : Rec) → record_of_output q j o ≡ Some r → (r.time ≡ o.time) × (r.tag ≡ o.tag)
  parts_of_output j o r h = output_parts (q.key j o.time o.value) o r h

module _ {Cell : Type 0} (q : QueryFacts Cell) (events : List Event) where
  -- Stage 0

  -- the records stand by the index of their event
  pub inputs_by_index : Pairs ByIndex (input_records q events)
  inputs_by_index =
      Pairs-filter_map
      (λ (p r : ℕ × Event). p.0 < r.0)
      ByIndex
      (λ (p : ℕ × Event). record_of q p.0 p.1)
      (λ p r y w less e f.
      let a = tag_of_event q p.0 p.1 y e in
      let b = tag_of_event q r.0 r.1 w f in
      let c : y.tag.1 ≡ p.0 = ap (λ (g : Tag). g.1) a in
      let d : w.tag.1 ≡ r.0 = ap (λ (g : Tag). g.1) b in
      (ap (λ (g : Tag). g.0) a ∙ sym (ap (λ (g : Tag). g.0) b), omega arith))
      (enumerate_from 0 events)
      (places_rise 0 events)

  at_index : (i : ℕ) (e : Event) (r : Rec) → slice_get events i ≡ Some e → record_of q i e ≡ Some r → record_at q events i ≡ Some r
  at_index i e r there makes = ap (λ (o : Option Event). option_and_then (record_of q i) o) there ∙ makes

  -- a record is the one at its tag's index
  pub input_is : (r : Rec) → Contains (input_records q events) r → record_at q events r.tag.1 ≡ Some r
  input_is r h =
      let a = maker (λ (p : ℕ × Event). record_of q p.0 p.1) (enumerate_from 0 events) r h in
      let b = placed_at 0 events a.0 a.1 in
      let e : r.tag.1 ≡ a.0.0 = ap (λ (g : Tag). g.1) (tag_of_event q a.0.0 a.0.1 r a.2) in
      let f : b.0 ≡ a.0.0 = omega (arith, b.1) in
      let there = subst (λ (i : ℕ). slice_get events i ≡ Some a.0.1) f b.2 in
      subst (λ (i : ℕ). record_at q events i ≡ Some r) (sym e) (at_index a.0.0 a.0.1 r there a.2)

  -- and the record at an index stands there, with the index in its tag
  pub input_stands : (i : ℕ) (r : Rec) → record_at q events i ≡ Some r → Contains (input_records q events) r × (r.tag ≡ record { 0 = 0; 1 = i })
  input_stands i r h =
      option_and_then_some (record_of q i) (slice_get events i) r h (λ e there makes.
      let p = subst (λ (n : ℕ). Contains (enumerate_from 0 events) (n, e)) (zero-add i) (stands_placed 0 events i e there) in
      (made (λ (p : ℕ × Event). record_of q p.0 p.1) (enumerate_from 0 events) (i, e) r p makes, tag_of_event q i e r makes))

  -- All stages

  -- a record of a later stage was given by a group of its tag's key
  pub given : (j : ℕ) (r : Rec) → Contains (stage_records q events (suc j)) r → HasGroup q j (stage_records q events j) r.tag.0 r.time
  given j r h =
      let rs = stage_records q events j in
      let a = maker (record_of_output q (suc j)) (stage_outputs q j rs) r h in
      let b = parts_of_output q (suc j) a.0 r a.2 in
      let c = output_is q j rs a.0 a.1 in
      let d = subst (λ (t : ℕ). HasGroup q j rs a.0.tag.0 t) (sym b.0) c in
      subst (λ (g : Tag). HasGroup q j rs g.0 r.time) (sym b.1) d

  -- records of one time stand in the order of their tags
  pub records_in_order : (j : ℕ) → Pairs RecordsInOrder (stage_records q events j)
  records_in_order zero = Pairs-weaker ByIndex RecordsInOrder (λ r s h e. inr h) (input_records q events) inputs_by_index
  records_in_order (suc j) =
      let rs = stage_records q events j in
      Pairs-filter_map
      OutputsInOrder
      RecordsInOrder
      (record_of_output q (suc j))
      (λ o p r s less e f same.
      let a = parts_of_output q (suc j) o r e in
      let b = parts_of_output q (suc j) p s f in
      let before : TagIsBefore o.tag p.tag = less (sym a.0 ∙ same ∙ b.0) in
      subst₂ TagIsBefore (sym a.1) (sym b.1) before)
      (stage_outputs q j rs)
      (stage_outputs_in_order q j rs)

  -- so a time and a tag tell a record
  pub same_record : (j : ℕ) (r s : Rec) → Contains (stage_records q events j) r → Contains (stage_records q events j) s → r.time ≡ s.time → r.tag ≡ s.tag → r ≡ s
  same_record j r s h i same tags =
      ⊎_elim
      (λ (e : r ≡ s). e)
      (λ (e : RecordsInOrder r s ⊎ RecordsInOrder s r).
      absurd
      (⊎_elim
      (λ (less : RecordsInOrder r s). tag_irreflexive r.tag s.tag (less same) tags)
      (λ (less : RecordsInOrder s r). tag_irreflexive s.tag r.tag (less (sym same)) (sym tags))
      e))
      (Pairs-two RecordsInOrder (stage_records q events j) (records_in_order j) r s h i)
