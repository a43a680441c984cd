-- The records of each stage, and the rows of the answer.
use Rattle.std.specs.Prelude.{ℕ, zero, suc, ◌-◌, ◌<◌, Option, List}
use Rattle.std.specs.List.{enumerate_from, filter_map}
use Rattle.std.specs.Option.{option_map}
use Rattle.mp_model.specs.declared.record.Event.{Event}
use Rattle.mp_model.specs.declared.record.Output.{Output}
use Rattle.mp_model.specs.declared.record.Rec.{Rec}
use Rattle.mp_model.specs.Facts.{QueryFacts}
use Rattle.mp_model.specs.Folds.{FitsAlong, stage_outputs, timeline}

module _ {Cell : Type 0} where
  -- the record of the event of this index, if its value has a key in stage 0
  abbrev pub record_of : QueryFacts Cell → ℕ → Event → Option Rec
  record_of q i e =
      option_map (λ k. record { time = e.time; key = k; tag = record { 0 = 0; 1 = i }; value = e.value }) (q.key 0 e.time e.value)

  -- the records that the events make in stage 0, by the index of their event
  abbrev pub input_records : QueryFacts Cell → List Event → List Rec
  input_records q events = filter_map (λ p. record_of q p.0 p.1) (enumerate_from 0 events)

  -- the record that an output makes in a stage, if its value has a key there
  abbrev pub record_of_output : QueryFacts Cell → ℕ → Output → Option Rec
  record_of_output q j o = option_map (λ k. record { time = o.time; key = k; tag = o.tag; value = o.value }) (q.key j o.time o.value)

  -- the records of a stage: those of the events, and later those of the outputs of the stage before
  abbrev pub stage_records : QueryFacts Cell → List Event → ℕ → List Rec
  stage_records q events zero = input_records q events
  stage_records q events (suc j) = filter_map (record_of_output q (suc j)) (stage_outputs q j (stage_records q events j))

  -- the outputs of the last stage
  abbrev pub answer_rows : QueryFacts Cell → List Event → List Output
  answer_rows q events = stage_outputs q (q.stages - 1) (stage_records q events (q.stages - 1))

  -- in each stage the sums and counts of every key fit their types
  abbrev pub FoldsFit : QueryFacts Cell → List Event → Type 0
  FoldsFit q events = (j k : ℕ) → j < q.stages → FitsAlong q j (q.opening j k) (timeline q j k (stage_records q events j))
