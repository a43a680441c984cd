use Rattle.mp_worker_invariant.proofs.Asked.{parts_begin}
use Rattle.mp_worker_invariant.proofs.laws.parts_begin.Goals as goal
use Rattle.mp_model.specs.Tables.{table_of}

pub returns : goal.returns
returns g c = λ job. parts_begin (table_of g.Q.Query.facts job) job
