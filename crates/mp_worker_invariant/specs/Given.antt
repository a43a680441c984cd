-- What a group gives: the outputs of its stage, and the records that they make in the next one.
use Rattle.std.specs.Prelude.{ℕ, suc, List}
use Rattle.std.specs.List.{filter_map}
use Rattle.mp_model.specs.declared.record.Output.{Output}
use Rattle.mp_model.specs.declared.record.Rec.{Rec}
use Rattle.mp_model.specs.declared.value.Value.{Value}
use Rattle.mp_model.specs.Facts.{JobFacts, QueryFacts}
use Rattle.mp_model.specs.Folds.{cell_before, outputs_at}
use Rattle.mp_model.specs.Stages.{record_of_output, stage_records}
use Rattle.mp_outline.specs.Laws.{group_at}

module _ {Cell : Type 0} where
  -- the values that the group of a key at a time gives, in order
  abbrev pub values_given : QueryFacts Cell → JobFacts → ℕ → ℕ → ℕ → List Value
  values_given q job j t k = q.gives j (cell_before q j (stage_records q job.events j) k t) (group_at q job j t k)

  -- its outputs
  abbrev pub outputs_given : QueryFacts Cell → JobFacts → ℕ → ℕ → ℕ → List Output
  outputs_given q job j t k = outputs_at t k (values_given q job j t k)

  -- the records of the next stage that outputs of a stage make
  abbrev pub records_made : QueryFacts Cell → ℕ → List Output → List Rec
  records_made q j outputs = filter_map (record_of_output q (suc j)) outputs

-- the output of a value at this place of its group
abbrev pub output_at : ℕ → ℕ → ℕ → Value → Output
output_at t k i v = record { time = t; tag = record { 0 = k; 1 = i }; value = v }
