use Rattle.mp_model.specs.Tables.{table_of}
use Rattle.mp_worker_invariant.proofs.InTurn.{outputs_go_in_turn}
use Rattle.mp_worker_invariant.proofs.laws.outputs_go_in_turn.Goals as goal

pub returns : goal.returns
returns g c = λ job. outputs_go_in_turn (table_of g.Q.Query.facts job) job
