use Rattle.mp_output.proofs.RowsAlone.{rows_alone}
use Rattle.mp_output.proofs.laws.answer_rows_are_rows.Goals as goal
use Rattle.mp_model.specs.Tables.{table_of}

pub returns : goal.returns
returns g c = λ job gives. rows_alone (table_of g.Q.Query.facts job) gives job.events
