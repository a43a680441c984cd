use Rattle.mp_host_laws.proofs.Received.{records_are_held}
use Rattle.mp_host_laws.proofs.laws.records_are_held.Goals as goal
use Rattle.mp_model.specs.Tables.{table_of}

pub returns : goal.returns
returns g c = λ job legal. records_are_held (table_of g.Q.Query.facts job) job
