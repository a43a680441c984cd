-- What a message of a job may hold.
use Rattle.std.specs.Prelude.{◌≡◌, ℕ, ◌<◌, List, Contains, length}
use Rattle.mp_names.specs.declared.controls.Control.{Control}
use Rattle.mp_names.specs.declared.names.Tag.{Tag}
use Rattle.mp_names.specs.Controls.{control_of}
use Rattle.mp_names.specs.Outlines.{IsMove}
use Rattle.mp_model.specs.declared.fields.Field.{Field}
use Rattle.mp_model.specs.declared.record.Rec.{Rec}
use Rattle.mp_model.specs.declared.value.Value.TheVariants.{Row}
use Rattle.mp_model.specs.Facts.{JobFacts, QueryFacts}
use Rattle.mp_model.specs.Stages.{answer_rows, stage_records}
use Rattle.mp_outline.specs.JobOutline.{outline_of}
use Rattle.mp_msg.specs.States.{BinContent, IsStateBefore}

-- the control record stands at this index of the job's list, and the job has the worker that it goes to
abbrev pub IsControlOf : JobFacts → ℕ → ℕ → Control → Type 0
IsControlOf job i v c = (i < length job.controls) × (v < job.shape.workers) × (c ≡ control_of job.controls i)

module _ {Cell : Type 0} where
  -- the record is one of this stage of the job
  abbrev pub IsRecordOf : QueryFacts Cell → JobFacts → ℕ → Rec → Type 0
  IsRecordOf q job j r = (j < job.shape.stages) × Contains (stage_records q job.events j) r

  -- the job's answer has this row
  abbrev pub IsRowOf : QueryFacts Cell → JobFacts → ℕ → Tag → List Field → Type 0
  IsRowOf q job t g fields = Contains (answer_rows q job.events) (record { time = t; tag = g; value = Row fields })

  -- the bin of this stage moves at this time, and this is what it has just before
  abbrev pub IsPacketOf : QueryFacts Cell → JobFacts → ℕ → ℕ → ℕ → BinContent Cell → Type 0
  IsPacketOf q job j b t s = IsMove (outline_of q job) j b t × IsStateBefore q job j b t s
