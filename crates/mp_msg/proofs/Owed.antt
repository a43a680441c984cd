-- The control records, records, states of bins that move and answer rows of a job are what its outline owes.
use Rattle.mp_model.specs.declared.value.Value.TheVariants.{Row}
use Rattle.mp_model.specs.Facts.{JobFacts, QueryFacts}
use Rattle.mp_model.specs.Stages.{answer_rows}
use Rattle.mp_outline.specs.JobOutline.{name_of_row}
use Rattle.mp_outline.proofs.Named.{named_In}
use Rattle.mp_outline.proofs.Stages.{name_stands, record_named}
use Rattle.mp_msg.specs.Laws.{ControlsAreOwed, OwedRecordsAreThere, PacketsAreOwed, RecordsAreOwed, RowsAreOwed}
use Rattle.mp_names.specs.declared.names.Name.TheVariants.{Rec as RecName}

module _ {Cell : Type 0} (q : QueryFacts Cell) (job : JobFacts) where
  pub records_are_owed : RecordsAreOwed q job
  records_are_owed j r h = (h.0, name_stands q job j r h.0 h.1)

  pub rows_are_owed : RowsAreOwed q job
  rows_are_owed t g fields h = named_In name_of_row (answer_rows q job.events) (record { time = t; tag = g; value = Row fields }) h

  pub controls_are_owed : ControlsAreOwed q job
  controls_are_owed i v c h = (h.0, h.1)

  pub packets_are_owed : PacketsAreOwed q job
  packets_are_owed j b t s h = h.0

  pub owed_records_are_there : OwedRecordsAreThere q job
  owed_records_are_there j t k g h = let a = record_named q job j (RecName j t k g) h.1 in (a.0, (h.0, a.1), a.2)
