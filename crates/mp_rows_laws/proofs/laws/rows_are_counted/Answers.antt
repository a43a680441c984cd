use Rattle.mp_rows.proofs.RowTaken.{row_taken}
use Rattle.mp_rows_laws.proofs.Sent.{row_sent}
use Rattle.mp_rows_laws.proofs.laws.rows_are_counted.Goals as goal

pub returns-clause-sent : goal.returns-clause-sent
returns-clause-sent c = λ o w log ok t g held. row_sent o w log ok t g held

pub returns-clause-taken : goal.returns-clause-taken
returns-clause-taken c = λ o w log t g. row_taken o w log t g
