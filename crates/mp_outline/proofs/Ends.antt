-- The table of a job keeps to the times that count in it: none of its records and outputs is of the stop time or later.
use Rattle.std.proofs.Common.{◌≡◌, ℕ, zero, suc, true, false, Option, None, Some, List, [], ◌∷◌, option_map, Contains, refl, sym, ap, subst, ⊎_elim}
use Rattle.std.specs.List.{enumerate_from}
use Rattle.std.proofs.lemmas.Bool.{and_parts, cases_Bool}
use Rattle.std.proofs.lemmas.List.Elements.{Contains-append_cases}
use Rattle.std.proofs.lemmas.Option.{none-some, same_Some}
use Rattle.mp_names.specs.Outlines.{is_before_stop}
use Rattle.mp_model.specs.declared.record.Event.{Event}
use Rattle.mp_model.specs.declared.record.Output.{Output}
use Rattle.mp_model.specs.declared.record.Rec.{Rec}
use Rattle.mp_model.specs.declared.value.Value.{Value}
use Rattle.mp_model.specs.Entry.{Entry}
use Rattle.mp_model.specs.Facts.{JobFacts, QueryFacts}
use Rattle.mp_model.specs.Folds.{keys_in, outputs_along, outputs_at, outputs_of, stage_outputs, timeline}
use Rattle.mp_model.specs.Stages.{record_of, record_of_output, stage_records}
use Rattle.mp_model.specs.Tables.{is_after_saved}
use Rattle.mp_job.specs.Legal.{KeepsToJob}
use Rattle.mp_job.proofs.Members.{nothing_in_nil, Contains-flat_map}
use Rattle.mp_outline.proofs.FilterMaps.{maker}
use Rattle.mp_outline.proofs.Found.{found}
use Rattle.mp_outline.proofs.Outputs.{outputs_are}
use Rattle.mp_outline.proofs.Records.{parts_of_output}

-- the record of an event has its time, and the event has a key
event_time : (key : Option ℕ) (i : ℕ) (e : Event) (r : Rec) → option_map (λ k. record { time = e.time; key = k; tag = record { 0 = 0; 1 = i }; value = e.value }) key ≡ Some r → (k : ℕ) × (key ≡ Some k) × (r.time ≡ e.time)
event_time None i e r h = absurd (none-some r h)
event_time (Some k) i e r h =
    (k, refl, ap (λ (s : Rec). s.time) (sym (same_Some (record { time = e.time; key = k; tag = record { 0 = 0; 1 = i }; value = e.value }) r h)))

module _ {Cell : Type 0} (q : QueryFacts Cell) (job : JobFacts) (table : KeepsToJob q job) where
  along_stops : (j : ℕ) (cell : Cell) (es : List Entry) (o : Output) → Contains (outputs_along q j cell es) o → is_before_stop job.until o.time ≡ true
  along_stops j cell [] o h = absurd (nothing_in_nil o h)
  along_stops j cell (e ∷ es) o h =
      ⊎_elim
      (λ (i : Contains (outputs_at e.time e.key (q.gives j cell e)) o).
      ⊎_elim
      (λ (b : is_before_stop job.until e.time ≡ true). subst (λ (t : ℕ). is_before_stop job.until t ≡ true) (sym (outputs_are e.time e.key (q.gives j cell e) o i).0) b)
      (λ (b : is_before_stop job.until e.time ≡ false).
      absurd (nothing_in_nil o (subst (λ (vs : List Value). Contains (outputs_at e.time e.key vs) o) (table.gives j cell e b) i)))
      (cases_Bool (is_before_stop job.until e.time)))
      (λ (i : Contains (outputs_along q j (q.step j cell e) es) o). along_stops j (q.step j cell e) es o i)
      (Contains-append_cases (outputs_at e.time e.key (q.gives j cell e)) (outputs_along q j (q.step j cell e) es) o h)

  -- an output is before the stop time
  pub output_stops : (j : ℕ) (rs : List Rec) (o : Output) → Contains (stage_outputs q j rs) o → is_before_stop job.until o.time ≡ true
  output_stops j rs o h =
      let a = found (λ k. Contains (outputs_of q j rs k) o) (keys_in q j rs) (Contains-flat_map (outputs_of q j rs) (keys_in q j rs) o h) in
      along_stops j (q.opening j a.0) (timeline q j a.0 rs) o a.2

  -- and so is a record
  pub record_stops : (j : ℕ) (r : Rec) → Contains (stage_records q job.events j) r → is_before_stop job.until r.time ≡ true
  record_stops zero r h =
      let a = maker (λ (p : ℕ × Event). record_of q p.0 p.1) (enumerate_from 0 job.events) r h in
      let e = a.0.1 in
      let b = event_time (q.key 0 e.time e.value) a.0.0 e r a.2 in
      subst (λ (t : ℕ). is_before_stop job.until t ≡ true) (sym b.2) (and_parts (is_after_saved job.from e.time) (is_before_stop job.until e.time) (table.keys e.time e.value b.0 b.1)).1
  record_stops (suc j) r h =
      let rs = stage_records q job.events j in
      let a = maker (record_of_output q (suc j)) (stage_outputs q j rs) r h in
      let b = parts_of_output q (suc j) a.0 r a.2 in
      subst (λ (t : ℕ). is_before_stop job.until t ≡ true) (sym b.0) (output_stops j rs a.0 a.1)
