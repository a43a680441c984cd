use Rattle.mp_rows_laws.proofs.Sent.{control_sent}
use Rattle.mp_rows_laws.proofs.Took.{control_taken}
use Rattle.mp_rows_laws.proofs.laws.controls_are_counted.Goals as goal

pub returns-clause-sent : goal.returns-clause-sent
returns-clause-sent c = λ o w log ok i v held. control_sent o w log ok i v held

pub returns-clause-taken : goal.returns-clause-taken
returns-clause-taken c = λ o w log i v noted known open_time. control_taken o w log i v noted known open_time
