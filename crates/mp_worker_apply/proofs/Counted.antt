-- What a group gives is counted: how many names of the next stage are its outputs; and when it is.
use Rattle.std.proofs.Common.{◌≡◌, ◌≢◌, ℕ, suc, ◌+◌, ◌-◌, ◌<◌, ◌≤◌, ◌==◌, Bool, true, Option, None, Some, List, [], ◌∷◌, All, AllPairs, Contains, count_by, filter, length, map, not, refl, sym, ap, ◌∙◌, subst, arith}
use Rattle.std.proofs.lemmas.Bool.{and_from, and_parts, eq-eqb, eqb-true, ne_eqb}
use Rattle.std.proofs.lemmas.List.{length-map}
use Rattle.std.proofs.lemmas.List.Elements.{All-contains, All-filter, All-map, All-nil}
use Rattle.mp_names.specs.declared.names.Name.{Name}
use Rattle.mp_names.specs.declared.names.Name.TheVariants.{Group}
use Rattle.mp_names.specs.Names.{In, Distinct}
use Rattle.mp_names.specs.Outlines.{OutlineIsSound, groups_of}
use Rattle.mp_names.proofs.Lists.{all_counted, same_count}
use Rattle.mp_names.specs.Limits.{last_time}
use Rattle.mp_names.proofs.NameParts.{same_row}
use Rattle.mp_model.specs.declared.value.Value.{Value}
use Rattle.mp_model.specs.Ascending.{ascending}
use Rattle.mp_model.specs.Entry.{Entry}
use Rattle.mp_model.specs.Facts.{JobFacts, QueryFacts, SavedState, SavedWake}
use Rattle.mp_model.specs.Folds.{stage_outputs}
use Rattle.mp_model.specs.QueryLaws.{LaterStagesPostNothing, PostsAreLater, SavedFits, WakesAreInTime}
use Rattle.mp_model.specs.Stages.{answer_rows, stage_records}
use Rattle.mp_model.specs.Tables.{opening_wakes}
use Rattle.mp_model.proofs.LastTimes.{groups_in_time, stage_in_time}
use Rattle.mp_job.specs.Legal.{JobIsLegal}
use Rattle.mp_job.proofs.Ascents.{Rises-ascending}
use Rattle.mp_rows_laws.specs.Changes.{is_output, outputs_of}
use Rattle.mp_outline.specs.JobOutline.{name_of_record, name_of_row, outline_of}
use Rattle.mp_outline.specs.Laws.{OutputsInOrder, group_at, timeline_of}
use Rattle.mp_outline.proofs.Named.{In_named, named_In, named_once}
use Rattle.mp_outline.proofs.Pairs.{AllPairs-Pairs, Pairs-Rises, Pairs-weaker}
use Rattle.mp_outline.proofs.Stages.{name_stands, record_named}
use Rattle.mp_outline.proofs.Tags.{tag_irreflexive}
use Rattle.mp_outline.proofs.Timelines.{groups_are_on}
use Rattle.mp_outline.proofs.Outputs.{outputs_are, outputs_in_order}
use Rattle.mp_host_laws.specs.Hosted.{Hosted, waits_at}
use Rattle.mp_host_laws.specs.Applying.{posts_here, woken_by}
use Rattle.mp_worker_invariant.specs.Given.{outputs_given, records_made, values_given}
use Rattle.mp_worker_invariant.proofs.Given.{made_once, outputs_come, outputs_stand, records_come, records_stand}
use Rattle.mp_worker_apply.proofs.OneByOne.{outputs_from}

-- Numbers of names

-- as many names of a list pass as there are in a list of just those
just_those : (p : Name → Bool) (ts ss : List Name) → Distinct ts → Distinct ss → ((x : Name) → In x ts → In x ss × (p x ≡ true)) → ((x : Name) → In x ss → p x ≡ true → In x ts) → count_by p ss ≡ length ts
just_those p ts ss once also those others = same_count p ts ss once also (λ x i e. (those x i).0) others ∙ all_counted p ts (λ x i. (those x i).1)

outputs_length : (t k place : ℕ) (values : List Value) → length (outputs_from t k place values) ≡ length values
outputs_length t k place [] = refl
outputs_length t k place (v ∷ vs) = ap suc (outputs_length t k (place + 1) vs)

-- No opening wake is too late

saved_in_time : {Cell : Type 0} (q : QueryFacts Cell) (from : Option SavedState) (j : ℕ) → SavedFits q from → All (λ (w : ℕ × ℕ). w.0 ≤ last_time) (opening_wakes from j)
saved_in_time q None j fits = All-nil (λ (w : ℕ × ℕ). w.0 ≤ last_time)
saved_in_time q (Some saved) j fits =
    All-map (λ (w : ℕ × ℕ). w.0 ≤ last_time) (λ (w : SavedWake). (w.time, w.key)) (filter (λ (w : SavedWake). w.stage == j) saved.wakes)
    (All-filter (λ (w : SavedWake). w.stage == j) (λ (w : SavedWake). w.time ≤ last_time) saved.wakes fits.in_time)

wakes_in_time : {Cell : Type 0} (q : QueryFacts Cell) (job : JobFacts) → JobIsLegal q job → (j : ℕ) → WakesAreInTime q j
wakes_in_time q job legal j = subst (All (λ (w : ℕ × ℕ). w.0 ≤ last_time)) (sym (legal.table.waking j)) (saved_in_time q job.from j legal.saved)

-- What a group gives

module _ {Cell : Type 0} (q : QueryFacts Cell) (nothing : LaterStagesPostNothing q) (job : JobFacts) (sound : OutlineIsSound (outline_of q job)) (j t k : ℕ) (below : j < job.shape.stages) (group : In (Group j t k) (groups_of (outline_of q job) j)) where
  -- no group is too late
  pub group_in_time : PostsAreLater q → JobIsLegal q job → t ≤ last_time
  group_in_time later legal =
      let wakes = wakes_in_time q job legal in
      All-contains (λ (e : Entry). e.time ≤ last_time) (timeline_of q job j k) (group_at q job j t k) (groups_in_time q j (wakes j) k (stage_records q job.events j) (stage_in_time q later nothing wakes job.events legal.events j)) ((groups_are_on q nothing job sound j t k below).0 group)

  -- The records of the next stage that the group's outputs make

  module _ (next : suc j < job.shape.stages) where
    made_are_there : (x : Name) → In x (map (name_of_record (suc j)) (records_made q j (outputs_given q job j t k))) → In x ((outline_of q job).records (suc j)) × (is_output t k x ≡ true)
    made_are_there x i =
        let a = In_named (name_of_record (suc j)) (records_made q j (outputs_given q job j t k)) x i in
        let b = records_stand q nothing job sound j t k below group a.0 a.1 in
        subst (λ (y : Name). In y ((outline_of q job).records (suc j)) × (is_output t k y ≡ true)) a.2
        (name_stands q job (suc j) a.0 next b.0, and_from (t == a.0.time) (k == a.0.tag.0) (eq-eqb t a.0.time (sym b.1)) (eq-eqb k a.0.tag.0 (sym b.2)))

    there_are_made : (x : Name) → In x ((outline_of q job).records (suc j)) → is_output t k x ≡ true → In x (map (name_of_record (suc j)) (records_made q j (outputs_given q job j t k)))
    there_are_made x i e =
        let a = record_named q job (suc j) x i in
        let r = a.0 in
        let b = and_parts (t == r.time) (k == r.tag.0) (subst (λ (y : Name). is_output t k y ≡ true) (sym a.2) e) in
        subst (λ (y : Name). In y (map (name_of_record (suc j)) (records_made q j (outputs_given q job j t k)))) a.2
        (named_In (name_of_record (suc j)) (records_made q j (outputs_given q job j t k)) r (records_come q nothing job sound j t k below group r a.1 (sym (eqb-true t r.time b.0)) (sym (eqb-true k r.tag.0 b.1))))

    records_counted : count_by (is_output t k) ((outline_of q job).records (suc j)) ≡ length (records_made q j (outputs_given q job j t k))
    records_counted =
        just_those (is_output t k) (map (name_of_record (suc j)) (records_made q j (outputs_given q job j t k))) ((outline_of q job).records (suc j)) (made_once q j t k (values_given q job j t k)) (sound.records_once (suc j)) made_are_there there_are_made
        ∙ length-map (records_made q j (outputs_given q job j t k)) (name_of_record (suc j))

    pub number_of_records : outputs_of (outline_of q job) j t k ≡ length (records_made q j (outputs_given q job j t k))
    number_of_records = rw (ne_eqb (suc j) job.shape.stages (λ e. omega arith)) records_counted

  -- The rows of the answer

  module _ (ends : suc j ≡ job.shape.stages) (stages : job.shape.stages ≡ q.stages) where
    given_are_there : (x : Name) → In x (map name_of_row (outputs_given q job j t k)) → In x ((outline_of q job).rows) × (is_output t k x ≡ true)
    given_are_there x i =
        let a = In_named name_of_row (outputs_given q job j t k) x i in
        let b = outputs_are t k (values_given q job j t k) a.0 a.1 in
        let last : j ≡ q.stages - 1 = omega arith in
        let row = subst (λ (n : ℕ). Contains (stage_outputs q n (stage_records q job.events n)) a.0) last (outputs_stand q nothing job sound j t k below group a.0 a.1) in
        subst (λ (y : Name). In y ((outline_of q job).rows) × (is_output t k y ≡ true)) a.2
        (named_In name_of_row (answer_rows q job.events) a.0 row, and_from (t == a.0.time) (k == a.0.tag.0) (eq-eqb t a.0.time (sym b.0)) (eq-eqb k a.0.tag.0 (sym b.1)))

    there_are_given : (x : Name) → In x ((outline_of q job).rows) → is_output t k x ≡ true → In x (map name_of_row (outputs_given q job j t k))
    there_are_given x i e =
        let a = In_named name_of_row (answer_rows q job.events) x i in
        let r = a.0 in
        let b = and_parts (t == r.time) (k == r.tag.0) (subst (λ (y : Name). is_output t k y ≡ true) (sym a.2) e) in
        let last : q.stages - 1 ≡ j = omega arith in
        let there = subst (λ (n : ℕ). Contains (stage_outputs q n (stage_records q job.events n)) r) last a.1 in
        subst (λ (y : Name). In y (map name_of_row (outputs_given q job j t k))) a.2
        (named_In name_of_row (outputs_given q job j t k) r (outputs_come q nothing job sound j t k below group r there (sym (eqb-true t r.time b.0)) (sym (eqb-true k r.tag.0 b.1))))

    given_once : Distinct (map name_of_row (outputs_given q job j t k))
    given_once =
        named_once name_of_row (outputs_given q job j t k)
        (Pairs-weaker OutputsInOrder (λ r s. name_of_row r ≡ name_of_row s → ⊥) (λ r s less same. let e = same_row r.time s.time r.tag s.tag same in tag_irreflexive r.tag s.tag (less e.0) e.1) (outputs_given q job j t k) (outputs_in_order t k (values_given q job j t k)))

    rows_counted : count_by (is_output t k) ((outline_of q job).rows) ≡ length (values_given q job j t k)
    rows_counted =
        just_those (is_output t k) (map name_of_row (outputs_given q job j t k)) ((outline_of q job).rows) given_once sound.rows_once given_are_there there_are_given
        ∙ (length-map (outputs_given q job j t k) name_of_row ∙ outputs_length t k 0 (values_given q job j t k))

    pub number_of_rows : outputs_of (outline_of q job) j t k ≡ length (values_given q job j t k)
    number_of_rows = rw (eq-eqb (suc j) job.shape.stages ends) rows_counted

-- a key is woken once at a time
pub woken_once : {Cell : Type 0} (q : QueryFacts Cell) (h : Hosted Cell) (t k : ℕ) (woke : List ℕ) → woke ≡ woken_by q h t k → AllPairs (λ u v. u ≢ v) woke
woken_once q h t k woke e =
    let posts = filter (λ u. not (waits_at h u k)) (posts_here q h t k) in
    rw e (AllPairs-Pairs (λ u v. u ≢ v) (ascending posts) (Pairs-weaker (λ (u v : ℕ). u < v) (λ (u v : ℕ). u ≢ v) (λ u v less same. omega arith) (ascending posts) (Pairs-Rises (ascending posts) (Rises-ascending posts))))
