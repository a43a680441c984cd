use Rattle.mp_worker_invariant.proofs.Sending.{first_rows_are_sent}
use Rattle.mp_worker_invariant.proofs.laws.rows_are_sent.Goals as goal
use Rattle.mp_model.specs.Tables.{table_of}

pub returns : goal.returns
returns g c = λ job w log. first_rows_are_sent (table_of g.Q.Query.facts job) job w log
