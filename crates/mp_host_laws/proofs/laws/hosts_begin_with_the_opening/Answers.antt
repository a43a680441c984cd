use Rattle.mp_host_laws.proofs.Beginning.{new_hosts_hold_the_opening}
use Rattle.mp_host_laws.proofs.laws.hosts_begin_with_the_opening.Goals as goal
use Rattle.mp_model.specs.Tables.{table_of}

pub returns : goal.returns
returns g c = λ job legal. new_hosts_hold_the_opening (table_of g.Q.Query.facts job) job legal
