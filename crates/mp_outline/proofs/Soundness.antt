-- The outline of a legal job is sound.
use Rattle.std.proofs.Common.{◌≡◌, ℕ, suc, ◌-◌, ◌*◌, ◌^◌, ◌<◌, ◌%◌, nat_lt, true, List, [], length, map, Contains, refl, sym, ap, ◌∙◌, subst, arith, mod-lt, div-lt_iff_lt-mul, mul-lt-mul_of_pos_right, mul_comm}
use Rattle.std.proofs.lemmas.Bool.{and_parts, cond_both, eq-eqb}
use Rattle.std.proofs.lemmas.Nat.{pow_pos}
use Rattle.mp_names.specs.declared.names.Name.{Name}
use Rattle.mp_names.specs.declared.names.Name.TheVariants.{Rec as RecName, Row as RowName, Group}
use Rattle.mp_names.specs.declared.names.Tag.{Tag}
use Rattle.mp_names.specs.Names.{Distinct, In, is_group, is_rec, is_row}
use Rattle.mp_names.specs.Controls.{no_control}
use Rattle.mp_names.specs.Outlines.{control_at, groups_of, is_before_stop, is_posted, IsBeforeStop, IsInShape, OutlineIsSound, StandByIndex, time_of}
use Rattle.mp_names.proofs.Listed.{before_stop}
use Rattle.mp_names.proofs.NameParts.{same_parts, same_row}
use Rattle.mp_job.specs.Below.{bin_of_key, hash_of, IsBinCount}
use Rattle.mp_job.specs.Below.{among_is_worker}
use Rattle.mp_model.specs.declared.record.Output.{Output}
use Rattle.mp_model.specs.declared.record.Rec.{Rec}
use Rattle.mp_model.specs.Facts.{JobFacts, QueryFacts}
use Rattle.mp_model.specs.QueryLaws.{HasStages, LaterStagesPostNothing, PostsAreLater}
use Rattle.mp_model.specs.Stages.{answer_rows, input_records, stage_records}
use Rattle.mp_model.specs.Tables.{is_after_saved, opening_wakes}
use Rattle.mp_model.proofs.SavedWakes.{counted_after_start}
use Rattle.mp_job.specs.Legal.{JobIsLegal}
use Rattle.mp_job.proofs.Members.{nothing_in_nil}
use Rattle.mp_outline.specs.JobOutline.{name_of_record, name_of_row, opening_names, outline_of, record_names, row_names}
use Rattle.mp_outline.specs.Laws.{OutputsInOrder, RecordsInOrder}
use Rattle.mp_outline.proofs.Ends.{output_stops, record_stops}
use Rattle.mp_outline.proofs.Named.{In_named, named_by_index, named_once}
use Rattle.mp_outline.proofs.Outputs.{output_is, stage_outputs_in_order}
use Rattle.mp_outline.proofs.Pairs.{Pairs-weaker}
use Rattle.mp_outline.proofs.Posts.{post_is_later}
use Rattle.mp_outline.proofs.Records.{ByIndex, given, inputs_by_index, records_in_order, same_record}
use Rattle.mp_outline.proofs.Stages.{group_named, post_named, record_named}
use Rattle.mp_outline.proofs.Tags.{tag_irreflexive}
use Rattle.mp_outline.proofs.Waking.{wake_named}

-- The bin of a key is one of the bins
bin_is_inside : (k bins : ℕ) → IsBinCount bins → bin_of_key k bins < bins
bin_is_inside k bins h =
    let some : 0 < bins = subst (λ (n : ℕ). 0 < n) (sym h.2) (pow_pos h.0) in
    let low : hash_of k < 2 ^ 64 = mod-lt (k * 0x9E37_79B9_7F4A_7C15) (omega arith) in
    let less : hash_of k * bins < 2 ^ 64 * bins = mul-lt-mul_of_pos_right low some in
    let turned = subst (λ (n : ℕ). hash_of k * bins < n) (mul_comm (2 ^ 64) bins) less in
    (div-lt_iff_lt-mul {k = 2 ^ 64} {x = hash_of k * bins} {y = bins} (omega arith)).1 turned

module _ {Cell : Type 0} (q : QueryFacts Cell) (job : JobFacts) where
  -- The records of a stage

  pub names_once : (j : ℕ) → Distinct (record_names q job j)
  names_once j =
      cond_both (nat_lt j job.shape.stages) (map (name_of_record j) (stage_records q job.events j)) [] Distinct (λ e. once) (λ e. tt)
    where
      apart : (r s : Rec) → RecordsInOrder r s → name_of_record j r ≡ name_of_record j s → ⊥
      apart r s less e = let same = same_parts j j r.time s.time r.key s.key r.tag s.tag e in tag_irreflexive r.tag s.tag (less same.0) same.2

      once : Distinct (map (name_of_record j) (stage_records q job.events j))
      once =
          named_once (name_of_record j) (stage_records q job.events j) (Pairs-weaker RecordsInOrder (λ r s. name_of_record j r ≡ name_of_record j s → ⊥) apart (stage_records q job.events j) (records_in_order q job.events j))

  names_by_index : StandByIndex (record_names q job 0)
  names_by_index =
      cond_both
      (nat_lt 0 job.shape.stages)
      (map (name_of_record 0) (input_records q job.events))
      []
      StandByIndex
      (λ e. named_by_index (name_of_record 0) (input_records q job.events) (Pairs-weaker ByIndex (λ (r s : Rec). r.tag.1 < s.tag.1) (λ r s h. h.1) (input_records q job.events) (inputs_by_index q job.events)))
      (λ e. tt)

  names_are : (j : ℕ) (x : Name) → In x (record_names q job j) → (j < job.shape.stages) × (is_rec j x ≡ true)
  names_are j x h =
      let a = record_named q job j x h in
      (a.3, subst (λ (y : Name). is_rec j y ≡ true) a.2 (eq-eqb j j refl))

  key_is_told : (j t k l : ℕ) (g : Tag) → In (RecName j t k g) (record_names q job j) → In (RecName j t l g) (record_names q job j) → k ≡ l
  key_is_told j t k l g h i =
      let a = record_named q job j (RecName j t k g) h in
      let b = record_named q job j (RecName j t l g) i in
      let r = a.0 in
      let s = b.0 in
      let c = same_parts j j r.time t r.key k r.tag g a.2 in
      let d = same_parts j j s.time t s.key l s.tag g b.2 in
      let same = same_record q job.events j r s a.1 b.1 (c.0 ∙ sym d.0) (c.2 ∙ sym d.2) in
      sym c.1 ∙ ap (λ (u : Rec). u.key) same ∙ d.1

  -- The answer rows

  rows_named : (x : Name) → In x (row_names q job) → (o : Output) × Contains (answer_rows q job.events) o × (name_of_row o ≡ x)
  rows_named x h = In_named name_of_row (answer_rows q job.events) x h

  rows_are_rows : (x : Name) → In x (row_names q job) → is_row x ≡ true
  rows_are_rows x h = let a = rows_named x h in subst (λ (y : Name). is_row y ≡ true) a.2 refl

  rows_stand_once : Distinct (row_names q job)
  rows_stand_once =
      named_once name_of_row (answer_rows q job.events) (Pairs-weaker OutputsInOrder (λ o p. name_of_row o ≡ name_of_row p → ⊥) apart (answer_rows q job.events) (stage_outputs_in_order q (q.stages - 1) (stage_records q job.events (q.stages - 1))))
    where
      apart : (o p : Output) → OutputsInOrder o p → name_of_row o ≡ name_of_row p → ⊥
      apart o p less e = let same = same_row o.time p.time o.tag p.tag e in tag_irreflexive o.tag p.tag (less same.0) same.1

module _ {Cell : Type 0} (q : QueryFacts Cell) (nothing : LaterStagesPostNothing q) (job : JobFacts) (legal : JobIsLegal q job) where
  controls_in_shape : (i : ℕ) → i < length job.controls → IsInShape (outline_of q job) (control_at (outline_of q job) i)
  controls_in_shape i l = let within = (legal.controls.each i no_control l).within in (within.0, within.2, within.1)

  -- a record of a later stage was given by a group
  record_is_given : (j t k : ℕ) (g : Tag) → In (RecName (suc j) t k g) (record_names q job (suc j)) → In (Group j t g.0) (groups_of (outline_of q job) j)
  record_is_given j t k g h =
      let o = outline_of q job in
      let a = record_named q job (suc j) (RecName (suc j) t k g) h in
      let r = a.0 in
      let there : suc j < job.shape.stages = a.3 in
      let c = same_parts (suc j) (suc j) r.time t r.key k r.tag g a.2 in
      let group = group_named q nothing job j r.tag.0 r.time (omega arith) (given q job.events j r a.1) in
      subst (λ (g : Tag). In (Group j t g.0) (groups_of o j)) c.2 (subst (λ (t : ℕ). In (Group j t r.tag.0) (groups_of o j)) c.0 group)

  -- and so was an answer row
  row_is_given : HasStages q → (t : ℕ) (g : Tag) → In (RowName t g) (row_names q job) → In (Group (job.shape.stages - 1) t g.0) (groups_of (outline_of q job) (job.shape.stages - 1))
  row_is_given stages t g h =
      let o = outline_of q job in
      let j = q.stages - 1 in
      let a = rows_named q job (RowName t g) h in
      let p = a.0 in
      let c = same_row p.time t p.tag g a.2 in
      let some : 0 < q.stages = stages.0 in
      let same : job.shape.stages ≡ q.stages = legal.stages in
      let group = group_named q nothing job j p.tag.0 p.time (omega arith) (output_is q j (stage_records q job.events j) p a.1) in
      let of_name = subst (λ (g : Tag). In (Group j t g.0) (groups_of o j)) c.1 (subst (λ (t : ℕ). In (Group j t p.tag.0) (groups_of o j)) c.0 group) in
      subst (λ (n : ℕ). In (Group (n - 1) t g.0) (groups_of o (n - 1))) (sym same) of_name

module _ {Cell : Type 0} (q : QueryFacts Cell) (job : JobFacts) (legal : JobIsLegal q job) where
  -- Times that count

  control_counts : (i : ℕ) → i < length job.controls → let t = (control_at (outline_of q job) i).time in (is_after_saved job.from t ≡ true) × (is_before_stop job.until t ≡ true)
  control_counts i l =
      let t = (control_at (outline_of q job) i).time in
      and_parts (is_after_saved job.from t) (is_before_stop job.until t) (legal.controls_count i no_control l)

  controls_end : (i : ℕ) → i < length job.controls → IsBeforeStop job.until (control_at (outline_of q job) i).time
  controls_end i l = before_stop job.until (control_at (outline_of q job) i).time (control_counts i l).1

  names_end : (j : ℕ) (x : Name) → In x (record_names q job j) → IsBeforeStop job.until (time_of (outline_of q job) x)
  names_end j x h =
      let a = record_named q job j x h in
      subst (λ (y : Name). IsBeforeStop job.until (time_of (outline_of q job) y)) a.2 (before_stop job.until a.0.time (record_stops q job legal.table j a.0 a.1))

  rows_end : (x : Name) → In x (row_names q job) → IsBeforeStop job.until (time_of (outline_of q job) x)
  rows_end x h =
      let a = rows_named q job x h in
      subst (λ (y : Name). IsBeforeStop job.until (time_of (outline_of q job) y)) a.2 (before_stop job.until a.0.time (output_stops q job legal.table (q.stages - 1) (stage_records q job.events (q.stages - 1)) a.0 a.1))

  -- Opening wakes

  wakes_are_groups : (j : ℕ) (x : Name) → In x (opening_names q job j) → (j < job.shape.stages) × (is_group j x ≡ true)
  wakes_are_groups j x h =
      let a = wake_named q job j x h in
      (a.3, subst (λ (y : Name). is_group j y ≡ true) a.2 (eq-eqb j j refl))

  controls_after_start : (j : ℕ) (x : Name) → In x (opening_names q job j) → (i : ℕ) → i < length job.controls → 0 < (control_at (outline_of q job) i).time
  controls_after_start j x h i l =
      let a = wake_named q job j x h in
      let some : opening_wakes job.from j ≡ [] → ⊥ = λ e. nothing_in_nil a.0 (subst (λ (ws : List (ℕ × ℕ)). Contains ws a.0) (legal.table.waking j ∙ e) a.1) in
      counted_after_start q job.from legal.saved j some (control_at (outline_of q job) i).time (control_counts i l).0

module _ {Cell : Type 0} (q : QueryFacts Cell) (stages : HasStages q) (later : PostsAreLater q) (nothing : LaterStagesPostNothing q) (job : JobFacts) (legal : JobIsLegal q job) where
  post_after_name : (j : ℕ) (x : Name) (u : ℕ) → In x (record_names q job j) → is_posted (outline_of q job) x u ≡ true → time_of (outline_of q job) x < u
  post_after_name j x u h p =
      let o = outline_of q job in
      let a = record_named q job j x h in
      let own = subst (λ (y : Name). is_posted o y u ≡ true) (sym a.2) p in
      subst (λ (y : Name). time_of o y < u) a.2 (post_is_later q later nothing job.events legal.events j a.0 u a.1 (post_named q nothing job j a.0 u a.1 own))

  pub outline_is_sound : OutlineIsSound (outline_of q job)
  outline_is_sound =
      let same : job.shape.stages ≡ q.stages = legal.stages in
      let some : 0 < q.stages = stages.0 in
      record {
        some_worker = legal.shape.some_worker;
        some_stage = omega arith;
        some_bundle = omega arith;
        controls_fit = controls_in_shape q nothing job legal;
        first_owners_fit = λ j b l m. among_is_worker job.shape job.firsts legal.firsts.each j b (b % job.shape.workers) (mod-lt b legal.shape.some_worker);
        bins_fit = λ k. bin_is_inside k job.shape.bins legal.shape.bins;
        records_are = names_are q job;
        records_once = names_once q job;
        records_by_index = names_by_index q job;
        tags_tell = key_is_told q job;
        posts_later = post_after_name;
        records_given = record_is_given q nothing job legal;
        rows_are = rows_are_rows q job;
        rows_once = rows_stand_once q job;
        rows_given = row_is_given q nothing job legal stages;
        controls_stop = controls_end q job legal;
        records_stop = names_end q job legal;
        rows_stop = rows_end q job legal;
        opening_are = wakes_are_groups q job legal;
        opening_first = controls_after_start q job legal;
      }
