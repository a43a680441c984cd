-- What a group gives: its outputs are those of its stage that have its time and tags of its key.
use Rattle.std.proofs.Common.{◌≡◌, ◌↔◌, ℕ, suc, ◌<◌, true, false, nat_lt, Option, None, Some, List, [], ◌∷◌, ◌++◌, map, take_while, Contains, refl, sym, ap, ◌∙◌, subst, ⊎_elim, arith}
use Rattle.std.specs.Option.{option_map}
use Rattle.std.proofs.lemmas.Bool.{le-ltb, lt-ltb}
use Rattle.std.proofs.lemmas.List.Elements.{Contains-append_cases, Contains-append_left, Contains-append_right}
use Rattle.std.proofs.lemmas.List.Sums.{take_while-cons}
use Rattle.std.proofs.lemmas.Option.{none-some, same_Some}
use Rattle.mp_names.specs.declared.names.Name.TheVariants.{Group}
use Rattle.mp_names.specs.declared.names.Tag.{Tag}
use Rattle.mp_names.specs.Names.{In, Distinct}
use Rattle.mp_names.specs.Outlines.{OutlineIsSound, groups_of}
use Rattle.mp_names.proofs.NameParts.{same_parts}
use Rattle.mp_model.specs.declared.record.Output.{Output}
use Rattle.mp_model.specs.declared.record.Rec.{Rec}
use Rattle.mp_model.specs.declared.value.Value.{Value}
use Rattle.mp_model.specs.Entry.{Entry}
use Rattle.mp_model.specs.Facts.{JobFacts, QueryFacts}
use Rattle.mp_model.specs.Folds.{cell_before, entry_at, fold_of, keys_in, of_key, outputs_along, outputs_at, outputs_of, stage_outputs, timeline, waking_of}
use Rattle.mp_model.specs.QueryLaws.{LaterStagesPostNothing}
use Rattle.mp_model.specs.Stages.{record_of_output, stage_records}
use Rattle.mp_job.proofs.Ascents.{ascending-Contains}
use Rattle.mp_job.proofs.Members.{nothing_in_nil, Contains-cases, Contains-flat_map, flat_map-Contains, map-Contains}
use Rattle.mp_outline.specs.JobOutline.{name_of_record, outline_of}
use Rattle.mp_outline.specs.Laws.{OutputsInOrder, group_at}
use Rattle.mp_outline.proofs.FilterMaps.{made, maker}
use Rattle.mp_outline.proofs.Found.{found, found_there}
use Rattle.mp_outline.proofs.Named.{named_once}
use Rattle.mp_outline.proofs.Outputs.{HasGroup, IsMadeBy, along_are, group_is, group_stands, outputs_are, outputs_in_order, timeline_rises}
use Rattle.mp_outline.proofs.Pairs.{Pairs}
use Rattle.mp_outline.proofs.PairsMade.{Pairs-filter_map}
use Rattle.mp_outline.proofs.Tags.{tag_irreflexive}
use Rattle.mp_outline.proofs.Timelines.{groups_are_on}
use Rattle.mp_outline.proofs.Waking.{waking_is}
use Rattle.mp_worker_invariant.specs.Given.{outputs_given, records_made, values_given}

-- a record has the time and the tag of the output that made it, whatever its key is
made_parts : (key : Option ℕ) (o : Output) (r : Rec) → option_map (λ k. record { time = o.time; key = k; tag = o.tag; value = o.value }) key ≡ Some r → (r.time ≡ o.time) × (r.tag ≡ o.tag)
made_parts None o r h = absurd (none-some r h)
made_parts (Some k) o r h =
    let e = sym (same_Some (record { time = o.time; key = k; tag = o.tag; value = o.value }) r h) in
    (ap (λ (s : Rec). s.time) e, ap (λ (s : Rec). s.tag) e)

-- The outputs along a timeline

module _ {Cell : Type 0} (q : QueryFacts Cell) (j : ℕ) where
  -- the cell after the groups before a time
  abbrev cell_upto : Cell → List Entry → ℕ → Cell
  cell_upto cell es t = fold_of q j cell (take_while (λ e. nat_lt e.time t) es)

  -- the outputs that a cell and a group give
  abbrev gives_at : Cell → Entry → List Output
  gives_at cell e = outputs_at e.time e.key (q.gives j cell e)

  -- the outputs of a group's time are those of the group
  along_at : (cell : Cell) (es : List Entry) (e : Entry) → Pairs (λ e f. e.time < f.time) es → Contains es e → (o : Output) → o.time ≡ e.time
      → (Contains (outputs_along q j cell es) o ↔ Contains (gives_at (cell_upto cell es e.time) e) o)
  along_at cell [] e rises h o same = absurd (nothing_in_nil e h)
  along_at cell (f ∷ fs) e rises h o same =
      let later = outputs_along q j (q.step j cell f) fs in
      ⊎_elim
      (λ (s : f ≡ e). subst (λ (g : Entry). Contains (gives_at cell f ++ later) o ↔ Contains (gives_at (cell_upto cell (f ∷ fs) g.time) g) o) s (here (same ∙ sym (ap (λ (g : Entry). g.time) s))))
      (λ (k : Contains fs e). there k (along_at (q.step j cell f) fs e rises.1 k o same))
      (Contains-cases f e fs h)
    where
      here : o.time ≡ f.time → (Contains (gives_at cell f ++ outputs_along q j (q.step j cell f) fs) o ↔ Contains (gives_at (cell_upto cell (f ∷ fs) f.time) f) o)
      here timed =
          let none : nat_lt f.time f.time ≡ false = le-ltb f.time f.time (omega arith) in
          rw (take_while-cons (λ (e : Entry). nat_lt e.time f.time) f fs, none) (
            (λ i.
                ⊎_elim
                (λ (k : Contains (gives_at cell f) o). k)
                (λ (k : Contains (outputs_along q j (q.step j cell f) fs) o).
                let a = along_are q j (q.step j cell f) fs o k in
                let less : f.time < a.0.time = rises.0 a.0 a.1 in
                let also : o.time ≡ a.0.time = a.2 in
                absurd (omega arith))
                (Contains-append_cases (gives_at cell f) (outputs_along q j (q.step j cell f) fs) o i)),
            (λ i. Contains-append_left (gives_at cell f) (outputs_along q j (q.step j cell f) fs) o i),
          )

      there : Contains fs e → (Contains (outputs_along q j (q.step j cell f) fs) o ↔ Contains (gives_at (cell_upto (q.step j cell f) fs e.time) e) o)
          → (Contains (gives_at cell f ++ outputs_along q j (q.step j cell f) fs) o ↔ Contains (gives_at (cell_upto cell (f ∷ fs) e.time) e) o)
      there k rest =
          let less : f.time < e.time = rises.0 e k in
          let before : nat_lt f.time e.time ≡ true = lt-ltb f.time e.time less in
          rw (take_while-cons (λ (g : Entry). nat_lt g.time e.time) f fs, before) (
            (λ i.
                ⊎_elim
                (λ (m : Contains (gives_at cell f) o). let timed : o.time ≡ f.time = (outputs_are f.time f.key (q.gives j cell f) o m).0 in absurd (omega arith))
                (λ (m : Contains (outputs_along q j (q.step j cell f) fs) o). rest.0 m)
                (Contains-append_cases (gives_at cell f) (outputs_along q j (q.step j cell f) fs) o i)),
            (λ i. Contains-append_right (gives_at cell f) (outputs_along q j (q.step j cell f) fs) o (rest.1 i)),
          )

  -- The outputs of a stage that has the group

  module _ (rs : List Rec) (k t : ℕ) (group : HasGroup q j rs k t) where
    abbrev given_here : List Output
    given_here = outputs_at t k (q.gives j (cell_before q j rs k t) (entry_at q j k (of_key k rs) t))

    -- a key that has a group is one of a wake or of a record
    key_stands : Contains (keys_in q j rs) k
    key_stands =
        let woken = map (λ (w : ℕ × ℕ). w.1) (q.waking j) in
        let keys = map (λ (r : Rec). r.key) rs in
        ascending-Contains (woken ++ keys) k
        (⊎_elim
        (λ (i : Contains (waking_of q j k) t). Contains-append_left woken keys k (map-Contains (λ (w : ℕ × ℕ). w.1) (q.waking j) k (found_there (λ (w : ℕ × ℕ). w.1 ≡ k) (q.waking j) (t, k) (waking_is q j k t i) refl)))
        (λ (m : IsMadeBy q j rs k t). Contains-append_right woken keys k (map-Contains (λ (r : Rec). r.key) rs k (found_there (λ r. r.key ≡ k) rs m.0 m.1 m.2)))
        group)

    of_key_at : (o : Output) → o.time ≡ t → (Contains (outputs_of q j rs k) o ↔ Contains given_here o)
    of_key_at o timed = along_at (q.opening j k) (timeline q j k rs) (entry_at q j k (of_key k rs) t) (timeline_rises q j k rs) (group_stands q j k t rs group) o timed

    pub given_is_output : (o : Output) → Contains given_here o → Contains (stage_outputs q j rs) o
    given_is_output o h =
        let timed = (outputs_are t k (q.gives j (cell_before q j rs k t) (entry_at q j k (of_key k rs) t)) o h).0 in
        flat_map-Contains (outputs_of q j rs) (keys_in q j rs) o (found_there (λ l. Contains (outputs_of q j rs l) o) (keys_in q j rs) k key_stands ((of_key_at o timed).1 h))

    pub output_is_given : (o : Output) → Contains (stage_outputs q j rs) o → o.time ≡ t → o.tag.0 ≡ k → Contains given_here o
    output_is_given o h timed tagged =
        let a = found (λ l. Contains (outputs_of q j rs l) o) (keys_in q j rs) (Contains-flat_map (outputs_of q j rs) (keys_in q j rs) o h) in
        let b = along_are q j (q.opening j a.0) (timeline q j a.0 rs) o a.2 in
        let c = group_is q j a.0 rs b.0 b.1 in
        let same : a.0 ≡ k = ap (λ (e : Entry). e.key) c.0 ∙ (sym b.3 ∙ tagged) in
        (of_key_at o timed).0 (subst (λ (l : ℕ). Contains (outputs_of q j rs l) o) same a.2)

-- The groups of a job

module _ {Cell : Type 0} (q : QueryFacts Cell) (nothing : LaterStagesPostNothing q) (job : JobFacts) (sound : OutlineIsSound (outline_of q job)) (j t k : ℕ) (below : j < job.shape.stages) (group : In (Group j t k) (groups_of (outline_of q job) j)) where
  has_group : HasGroup q j (stage_records q job.events j) k t
  has_group = (group_is q j k (stage_records q job.events j) (group_at q job j t k) ((groups_are_on q nothing job sound j t k below).0 group)).1

  pub outputs_stand : (o : Output) → Contains (outputs_given q job j t k) o → Contains (stage_outputs q j (stage_records q job.events j)) o
  outputs_stand = given_is_output q j (stage_records q job.events j) k t has_group

  pub outputs_come : (o : Output) → Contains (stage_outputs q j (stage_records q job.events j)) o → o.time ≡ t → o.tag.0 ≡ k → Contains (outputs_given q job j t k) o
  outputs_come = output_is_given q j (stage_records q job.events j) k t has_group

  -- Records of the next stage

  -- a record that the outputs make is one of the stage, with the group's time and a tag of its key
  pub records_stand : (r : Rec) → Contains (records_made q j (outputs_given q job j t k)) r → Contains (stage_records q job.events (suc j)) r × (r.time ≡ t) × (r.tag.0 ≡ k)
  records_stand r h =
      let a = maker (record_of_output q (suc j)) (outputs_given q job j t k) r h in
      let b = made_parts (q.key (suc j) a.0.time a.0.value) a.0 r a.2 in
      let c = outputs_are t k (values_given q job j t k) a.0 a.1 in (
        made (record_of_output q (suc j)) (stage_outputs q j (stage_records q job.events j)) a.0 r (outputs_stand a.0 a.1) a.2,
        b.0 ∙ c.0,
        ap (λ (g : Tag). g.0) b.1 ∙ c.1,
      )

  -- and each such record is made by them
  pub records_come : (r : Rec) → Contains (stage_records q job.events (suc j)) r → r.time ≡ t → r.tag.0 ≡ k → Contains (records_made q j (outputs_given q job j t k)) r
  records_come r h timed tagged =
      let a = maker (record_of_output q (suc j)) (stage_outputs q j (stage_records q job.events j)) r h in
      let b = made_parts (q.key (suc j) a.0.time a.0.value) a.0 r a.2 in
      made (record_of_output q (suc j)) (outputs_given q job j t k) a.0 r (outputs_come a.0 a.1 (sym b.0 ∙ timed) (sym (ap (λ (g : Tag). g.0) b.1) ∙ tagged)) a.2

-- The names of what a group gives stand once

module _ {Cell : Type 0} (q : QueryFacts Cell) (j t k : ℕ) (values : List Value) where
  pub made_once : Distinct (map (name_of_record (suc j)) (records_made q j (outputs_at t k values)))
  made_once =
      named_once (name_of_record (suc j)) (records_made q j (outputs_at t k values))
      (Pairs-filter_map OutputsInOrder (λ r s. name_of_record (suc j) r ≡ name_of_record (suc j) s → ⊥) (record_of_output q (suc j))
      (λ o p r s less e f same.
      let a = made_parts (q.key (suc j) o.time o.value) o r e in
      let b = made_parts (q.key (suc j) p.time p.value) p s f in
      let c = same_parts (suc j) (suc j) r.time s.time r.key s.key r.tag s.tag same in
      tag_irreflexive o.tag p.tag (less (sym a.0 ∙ (c.0 ∙ b.0))) (sym a.1 ∙ (c.2 ∙ b.1)))
      (outputs_at t k values)
      (outputs_in_order t k values))
