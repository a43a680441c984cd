-- A table that begins with what is left at a time, and counts no event before it, has the records and outputs of the whole table from that time on.
use Rattle.std.proofs.Common.{◌≡◌, ◌↔◌, ◌++◌, ◌==◌, ◌-◌, ℕ, zero, suc, ◌<◌, Option, Some, None, List, [], map, Contains, refl, sym, ap, ◌∙◌, subst, ⊎_elim, arith}
use Rattle.std.specs.List.{filter_map, flat_map}
use Rattle.std.specs.Option.{option_map}
use Rattle.std.proofs.lemmas.Bool.{eqb-true}
use Rattle.std.proofs.lemmas.List.Elements.{Contains-append_cases, Contains-append_left, Contains-append_right}
use Rattle.std.proofs.lemmas.Option.{none-some, same_Some}
use Rattle.mp_model.specs.declared.record.Event.{Event}
use Rattle.mp_model.specs.declared.record.Output.{Output}
use Rattle.mp_model.specs.declared.record.Rec.{Rec}
use Rattle.mp_model.specs.declared.value.Value.{Value}
use Rattle.mp_model.specs.Ascending.{ascending}
use Rattle.mp_model.specs.Facts.{QueryFacts}
use Rattle.mp_model.specs.Folds.{cell_before, entry_at, keys_in, of_key, outputs_along, outputs_of, stage_outputs, times_in, waking_of}
use Rattle.mp_model.specs.Legal.{EventsAreLegal}
use Rattle.mp_model.specs.QueryLaws.{LaterStagesPostNothing, PostsAreLater}
use Rattle.mp_model.specs.Stages.{answer_rows, record_of_output, stage_records}
use Rattle.mp_job.proofs.Ascents.{Contains-ascending, Rises-ascending, ascending-Contains}
use Rattle.mp_job.proofs.Members.{Contains-filter, Contains-map, map-Contains}
use Rattle.mp_outline.proofs.Found.{found, found_there}
use Rattle.mp_outline.proofs.Posts.{post_is_later}
use Rattle.mp_outline.proofs.Waking.{waking_is}
use Rattle.mp_restart_laws.specs.Saves.{IsLeft}
use Rattle.mp_restart_laws.specs.Times.{is_from, outputs_from, records_from}
use Rattle.mp_restart_laws.proofs.Lists.{fewer_numbers, filter-filter_map, filter-flat_map, nothing_there}
use Rattle.mp_restart_laws.proofs.Tables.{KeysCount, from_nothing, going_on, inputs_counted, same_records}
use Rattle.mp_restart_laws.proofs.Timelines.{PostsFollow, late_outputs}

module _ {Cell : Type 0} (q : QueryFacts Cell) (later : PostsAreLater q) (nothing : LaterStagesPostNothing q) (events : List Event) (legal : EventsAreLegal events) where
  pub posts_follow : (j : ℕ) → PostsFollow q j (stage_records q events j)
  posts_follow j r u i k = let l : r.time < u = post_is_later q later nothing events legal j r u i k in omega arith

-- a record has the time of its output, whatever its key is
pub output_time : (key : Option ℕ) (o : Output) (r : Rec) → option_map (λ k. record { time = o.time; key = k; tag = o.tag; value = o.value }) key ≡ Some r → r.time ≡ o.time
output_time None o r h = absurd (none-some r h)
output_time (Some k) o r h = ap (λ (s : Rec). s.time) (sym (same_Some (record { time = o.time; key = k; tag = o.tag; value = o.value }) r h))

records_of_outputs : {Cell : Type 0} (q : QueryFacts Cell) (j t : ℕ) (outputs : List Output) → records_from t (filter_map (record_of_output q j) outputs) ≡ filter_map (record_of_output q j) (outputs_from t outputs)
records_of_outputs q j t outputs =
    filter-filter_map (λ (r : Rec). is_from t r.time) (λ (o : Output). is_from t o.time) (record_of_output q j) (λ o r e. ap (is_from t) (output_time (q.key j o.time o.value) o r e)) outputs

module _ {Cell : Type 0} (query : QueryFacts Cell) (key : ℕ → ℕ → Value → Option ℕ) (opening : ℕ → ℕ → Cell) (waking : ℕ → List (ℕ × ℕ)) where
  abbrev q : QueryFacts Cell
  q = from_nothing query

  abbrev p : QueryFacts Cell
  p = going_on query key opening waking

  -- One stage

  module _ (j t : ℕ) (rs : List Rec) (follow : PostsFollow query j rs) (opens : (k : ℕ) → opening j k ≡ cell_before q j rs k t) (left : (k u : ℕ) → (Contains (waking j) (u, k) ↔ IsLeft query t j rs k u)) where
    abbrev late : List Rec
    late = records_from t rs

    abbrev woken : List ℕ
    woken = map (λ w. w.1) (waking j)

    abbrev keyed : List ℕ
    keyed = map (λ r. r.key) late

    of_record : (r : Rec) (k : ℕ) → Contains rs r → r.key ≡ k → Contains (keys_in q j rs) k
    of_record r k h e = ascending-Contains (map (λ (s : Rec). s.key) rs) k (map-Contains (λ (s : Rec). s.key) rs k (found_there (λ (s : Rec). s.key ≡ k) rs r h e))

    -- a key that has a later record or a wake has a record
    has_record : (k : ℕ) → Contains (keys_in p j late) k → Contains (keys_in q j rs) k
    has_record k i =
        ⊎_elim
        (λ (m : Contains woken k).
        let a = found (λ (w : ℕ × ℕ). w.1 ≡ k) (waking j) (Contains-map (λ (w : ℕ × ℕ). w.1) (waking j) k m) in
        let there : Contains (waking j) (a.0.0, k) = subst (λ (l : ℕ). Contains (waking j) (a.0.0, l)) a.2 a.1 in
        let b = (left k a.0.0).0 there in
        of_record b.1 k b.2 b.3)
        (λ (m : Contains keyed k).
        let a = found (λ (r : Rec). r.key ≡ k) late (Contains-map (λ (r : Rec). r.key) late k m) in
        of_record a.0 k (Contains-filter (λ (r : Rec). is_from t r.time) rs a.0 a.1).0 a.2)
        (Contains-append_cases woken keyed k (Contains-ascending (woken ++ keyed) k i))

    -- and one that has neither gives nothing
    gives_nothing : (k : ℕ) → (Contains (keys_in p j late) k → ⊥) → outputs_of p j late k ≡ []
    gives_nothing k none =
        let no_record : of_key k late ≡ [] = nothing_there (of_key k late) (λ r i.
        let a = Contains-filter (λ (s : Rec). s.key == k) late r i in
        none (ascending-Contains (woken ++ keyed) k (Contains-append_right woken keyed k (map-Contains (λ (s : Rec). s.key) late k (found_there (λ (s : Rec). s.key ≡ k) late r a.0 (eqb-true r.key k a.1)))))) in
        let no_wake : waking_of p j k ≡ [] = nothing_there (waking_of p j k) (λ u i.
        none (ascending-Contains (woken ++ keyed) k (Contains-append_left woken keyed k (map-Contains (λ (w : ℕ × ℕ). w.1) (waking j) k (found_there (λ (w : ℕ × ℕ). w.1 ≡ k) (waking j) (u, k) (waking_is p j k u i) refl))))) in
        λ i. outputs_along p j (opening j k) (map (entry_at p j k (no_record i)) (ascending (no_wake i ++ times_in p j (no_record i))))

    -- what the stage gives from the time on is what it gives of the later records, and of what is left
    stage_goes_on : outputs_from t (stage_outputs q j rs) ≡ stage_outputs p j late
    stage_goes_on =
        filter-flat_map (λ (o : Output). is_from t o.time) (outputs_of q j rs) (keys_in q j rs)
        ∙ (λ i. flat_map (λ k. late_outputs query key opening waking j t rs follow k (left k) (opens k) i) (keys_in q j rs))
        ∙ fewer_numbers (outputs_of p j late) (keys_in q j rs) (keys_in p j late) (Rises-ascending (map (λ (r : Rec). r.key) rs)) (Rises-ascending (woken ++ keyed)) has_record (λ k i none. gives_nothing k none)

  -- All stages

  -- the table begins with what is left at the time
  pub record BeginsWithTheRest (events : List Event) (t : ℕ) : Type 0 where
    pub opens : (j k : ℕ) → j < query.stages → opening j k ≡ cell_before q j (stage_records q events j) k t
    pub left : (j k u : ℕ) → j < query.stages → (Contains (waking j) (u, k) ↔ IsLeft q t j (stage_records q events j) k u)

  module _ (some_stage : 0 < query.stages) (later : PostsAreLater query) (nothing : LaterStagesPostNothing query) (events : List Event) (legal : EventsAreLegal events) (t : ℕ) (keys : KeysCount q p (is_from t)) (begins : BeginsWithTheRest events t) where
    one_stage : (j : ℕ) → j < query.stages → outputs_from t (stage_outputs q j (stage_records q events j)) ≡ stage_outputs p j (records_from t (stage_records q events j))
    one_stage j l = stage_goes_on j t (stage_records q events j) (posts_follow q later nothing events legal j) (λ k. begins.opens j k l) (λ k u. begins.left j k u l)

    -- the records of each stage are those of the whole table from the time on
    records_go_on : (j : ℕ) → j < query.stages → stage_records p events j ≡ records_from t (stage_records q events j)
    records_go_on zero l = inputs_counted q p (is_from t) keys events
    records_go_on (suc j) l =
        ap (λ (rs : List Rec). filter_map (record_of_output p (suc j)) (stage_outputs p j rs)) (records_go_on j (omega arith))
        ∙ same_records q p (is_from t) keys j (stage_outputs p j (records_from t (stage_records q events j)))
        ∙ ap (filter_map (record_of_output q (suc j))) (sym (one_stage j (omega arith)))
        ∙ sym (records_of_outputs q (suc j) t (stage_outputs q j (stage_records q events j)))

    -- and so are the rows
    pub rows_go_on : answer_rows p events ≡ outputs_from t (answer_rows q events)
    rows_go_on =
        let l : query.stages - 1 < query.stages = omega arith in
        ap (stage_outputs p (query.stages - 1)) (records_go_on (query.stages - 1) l) ∙ sym (one_stage (query.stages - 1) l)
