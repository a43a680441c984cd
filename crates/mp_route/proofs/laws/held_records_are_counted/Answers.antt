use Rattle.mp_route.proofs.Counted.{held_are_counted}
use Rattle.mp_route.proofs.laws.held_records_are_counted.Goals as goal
use Rattle.mp_model.specs.Tables.{table_of}

pub returns : goal.returns
returns g c = λ job. held_are_counted (table_of g.Q.Query.facts job) job
