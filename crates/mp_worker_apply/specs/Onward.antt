-- Where the outputs of groups go.
use Rattle.std.specs.Prelude.{◌≡◌, ℕ, ◌+◌, ◌<◌, ◌≤◌, List, length}
use Rattle.std.specs.List.{filter_map}
use Rattle.mp_model.specs.declared.record.Rec.{Rec}
use Rattle.mp_model.specs.declared.value.Value.{Value}
use Rattle.mp_model.specs.Facts.{JobFacts, QueryFacts}
use Rattle.mp_model.specs.Folds.{outputs_at}
use Rattle.mp_model.specs.Stages.{record_of_output}
use Rattle.mp_route.specs.Routed.{Routed}

-- the router with its stage and its records, whatever room it has
abbrev pub content : Routed → Routed
content r = record { stage = r.stage; held = r.held; room = 0 }

-- the records of a stage that the values of the group of a key at a time make
abbrev pub records_at : {Cell : Type 0} → QueryFacts Cell → ℕ → ℕ → ℕ → List Value → List Rec
records_at q stage t k values = filter_map (record_of_output q stage) (outputs_at t k values)

-- So many of the values that a group of a stage gives go on: as many as make a record of the next stage, and after the last stage all, as rows
pub record GoOnward {Cell : Type 0} (q : QueryFacts Cell) (job : JobFacts) (j t k : ℕ) (values : List Value) (number : ℕ) : Type 0 where
  pub next : j + 1 < job.shape.stages → number ≡ length (records_at q (j + 1) t k values)
  pub last : job.shape.stages ≤ j + 1 → number ≡ length values
