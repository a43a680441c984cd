-- No time of a stage is too late: not those of records, posts, groups and outputs.
use Rattle.std.proofs.Common.{ℕ, zero, suc, ◌≤◌, ◌==◌, List, [], ◌∷◌, ◌++◌, filter, Option, Some, None, All, IfSome, slice_index_or, arith}
use Rattle.std.specs.List.{enumerate_from}
use Rattle.std.specs.Option.{option_map}
use Rattle.std.proofs.lemmas.List.Elements.{All-nil, All-cons, All-head, All-tail, All-append, All-filter, All-map, All-weaker}
use Rattle.mp_names.specs.Limits.{last_time}
use Rattle.mp_model.specs.declared.record.Event.{Event}
use Rattle.mp_model.specs.declared.record.Output.{Output}
use Rattle.mp_model.specs.declared.record.Rec.{Rec}
use Rattle.mp_model.specs.declared.value.Value.{Value}
use Rattle.mp_model.specs.Ascending.{ascending}
use Rattle.mp_model.specs.Entry.{Entry}
use Rattle.mp_model.specs.Facts.{QueryFacts}
use Rattle.mp_model.specs.Folds.{entry_at, keys_in, of_key, outputs_along, outputs_at, outputs_of, stage_outputs, timeline, times_in, waking_of}
use Rattle.mp_model.specs.Legal.{EventIsLegal, EventsAreLegal}
use Rattle.mp_model.specs.QueryLaws.{LaterStagesPostNothing, PostsAreLater, RecordIsLegal, RisesWithin, WakesAreInTime}
use Rattle.mp_model.specs.Stages.{record_of_output, stage_records}
use Rattle.mp_model.proofs.LegalRecords.{input_records_legal}
use Rattle.mp_model.proofs.Lists.{All-ascending, All-filter_map, All-flat_map}

-- an event is not later than the last time
pub events_in_time : (events : List Event) → EventsAreLegal events → All (λ e. e.time ≤ last_time) events
events_in_time events h =
    All-weaker EventIsLegal (λ (e : Event). e.time ≤ last_time) (λ e legal. omega (arith, legal.in_time)) events h.each

-- times that rise within bounds are not above them
rises_below : (low high : ℕ) (ts : List ℕ) → RisesWithin low high ts → All (λ t. t ≤ high) ts
rises_below low high [] h = All-nil (λ (t : ℕ). t ≤ high)
rises_below low high (t ∷ ts) h = All-cons (λ (u : ℕ). u ≤ high) t ts h.1 (rises_below t high ts h.2)

-- outputs have the time of their group
outputs_at_time : (t k : ℕ) (values : List Value) → t ≤ last_time → All (λ o. o.time ≤ last_time) (outputs_at t k values)
outputs_at_time t k values h =
    All-map (λ (o : Output). o.time ≤ last_time) (λ (p : ℕ × Value). record { time = t; tag = record { 0 = k; 1 = p.0 }; value = p.1 }) (enumerate_from 0 values) (λ i d low. h)

-- a record has the time of its output, whatever its key is
output_in_time : (key : Option ℕ) (o : Output) → o.time ≤ last_time
    → IfSome (option_map (λ k. record { time = o.time; key = k; tag = o.tag; value = o.value }) key) (λ (r : Rec). r.time ≤ last_time)
output_in_time None o h = tt
output_in_time (Some k) o h = h

-- a record of a stage and its posts are not later than the last time
abbrev pub IsInTime : {Cell : Type 0} → QueryFacts Cell → ℕ → Rec → Type 0
IsInTime q j r = All (λ t. t ≤ last_time) (r.time ∷ q.posts j r)

module _ {Cell : Type 0} (q : QueryFacts Cell) (j : ℕ) (wakes : WakesAreInTime q j) where
  -- neither is then a group of a key
  pub groups_in_time : (k : ℕ) (rs : List Rec) → All (IsInTime q j) rs → All (λ e. e.time ≤ last_time) (timeline q j k rs)
  groups_in_time k rs h =
      let own = of_key k rs in
      let times = All-flat_map (λ (t : ℕ). t ≤ last_time) (λ r. r.time ∷ q.posts j r) own (All-filter (λ (r : Rec). r.key == k) (IsInTime q j) rs h) in
      let first = All-map (λ (t : ℕ). t ≤ last_time) (λ (w : ℕ × ℕ). w.0) (filter (λ (w : ℕ × ℕ). w.1 == k) (q.waking j)) (All-filter (λ (w : ℕ × ℕ). w.1 == k) (λ (w : ℕ × ℕ). w.0 ≤ last_time) (q.waking j) wakes) in
      let all = All-append (λ (t : ℕ). t ≤ last_time) (waking_of q j k) (times_in q j own) first times in
      All-map (λ (e : Entry). e.time ≤ last_time) (entry_at q j k own) (ascending (waking_of q j k ++ times_in q j own)) (All-ascending (λ (t : ℕ). t ≤ last_time) (waking_of q j k ++ times_in q j own) all)

  along_in_time : (cell : Cell) (es : List Entry) → All (λ e. e.time ≤ last_time) es → All (λ o. o.time ≤ last_time) (outputs_along q j cell es)
  along_in_time cell [] h = All-nil (λ (o : Output). o.time ≤ last_time)
  along_in_time cell (e ∷ es) h =
      All-append (λ (o : Output). o.time ≤ last_time) (outputs_at e.time e.key (q.gives j cell e)) (outputs_along q j (q.step j cell e) es) (outputs_at_time e.time e.key (q.gives j cell e) (All-head (λ (f : Entry). f.time ≤ last_time) e es h)) (along_in_time (q.step j cell e) es (All-tail (λ (f : Entry). f.time ≤ last_time) e es h))

  -- nor an output of the stage
  pub outputs_in_time : (rs : List Rec) → All (IsInTime q j) rs → All (λ o. o.time ≤ last_time) (stage_outputs q j rs)
  outputs_in_time rs h =
      All-flat_map (λ (o : Output). o.time ≤ last_time) (outputs_of q j rs) (keys_in q j rs) (λ i d low. along_in_time (q.opening j (slice_index_or (keys_in q j rs) i d)) (timeline q j (slice_index_or (keys_in q j rs) i d) rs) (groups_in_time (slice_index_or (keys_in q j rs) i d) rs h))

module _ {Cell : Type 0} (q : QueryFacts Cell) (nothing : LaterStagesPostNothing q) (events : List Event) where
  -- where no output of a stage is too late, the records of the next are in time
  next_in_time : (j : ℕ) → All (λ o. o.time ≤ last_time) (stage_outputs q j (stage_records q events j)) → All (IsInTime q (suc j)) (stage_records q events (suc j))
  next_in_time j given =
      let made = All-filter_map (λ (r : Rec). r.time ≤ last_time) (record_of_output q (suc j)) (stage_outputs q j (stage_records q events j)) (All-weaker (λ (o : Output). o.time ≤ last_time) (λ (o : Output). IfSome (record_of_output q (suc j) o) (λ (r : Rec). r.time ≤ last_time)) (λ o h. output_in_time (q.key (suc j) o.time o.value) o h) (stage_outputs q j (stage_records q events j)) given) in
      All-weaker (λ (r : Rec). r.time ≤ last_time) (IsInTime q (suc j)) (λ r h. rw (nothing j r) (All-cons (λ (t : ℕ). t ≤ last_time) r.time [] h (All-nil (λ (t : ℕ). t ≤ last_time)))) (stage_records q events (suc j)) made

module _ {Cell : Type 0} (q : QueryFacts Cell) (later : PostsAreLater q) (nothing : LaterStagesPostNothing q) (wakes : (j : ℕ) → WakesAreInTime q j) (events : List Event) (legal : EventsAreLegal events) where
  -- each record of a stage and each of its posts is in time
  pub stage_in_time : (j : ℕ) → All (IsInTime q j) (stage_records q events j)
  stage_in_time zero =
      All-weaker RecordIsLegal (IsInTime q 0) (λ r h. All-cons (λ (t : ℕ). t ≤ last_time) r.time (q.posts 0 r) (omega (arith, h.in_time)) (rises_below r.time last_time (q.posts 0 r) (later r h))) (stage_records q events 0) (input_records_legal q events legal)
  stage_in_time (suc j) = next_in_time q nothing events j (outputs_in_time q j (wakes j) (stage_records q events j) (stage_in_time j))

  -- no record of a stage is too late
  pub records_in_time : (j : ℕ) → All (λ r. r.time ≤ last_time) (stage_records q events j)
  records_in_time j =
      All-weaker (IsInTime q j) (λ (r : Rec). r.time ≤ last_time) (λ r h. All-head (λ (t : ℕ). t ≤ last_time) r.time (q.posts j r) h) (stage_records q events j) (stage_in_time j)

  -- nor an output of one
  pub stage_outputs_in_time : (j : ℕ) → All (λ o. o.time ≤ last_time) (stage_outputs q j (stage_records q events j))
  stage_outputs_in_time j = outputs_in_time q j (wakes j) (stage_records q events j) (stage_in_time j)
