use Rattle.mp_worker_invariant.proofs.Unheard.{hosts_stay, routers_stay, seen_stays, unsent_rows_stay, unwritten_rows_stay}
use Rattle.mp_worker_invariant.proofs.laws.parts_hear_their_own.Goals as goal
use Rattle.mp_model.specs.Tables.{table_of}

pub returns-clause-hosts : goal.returns-clause-hosts
returns-clause-hosts g c = λ job. hosts_stay (table_of g.Q.Query.facts job) job

pub returns-clause-routers : goal.returns-clause-routers
returns-clause-routers g c = λ job. routers_stay (table_of g.Q.Query.facts job) job

pub returns-clause-unsent : goal.returns-clause-unsent
returns-clause-unsent g c = λ job. unsent_rows_stay (table_of g.Q.Query.facts job) job

pub returns-clause-unwritten : goal.returns-clause-unwritten
returns-clause-unwritten g c = unwritten_rows_stay

pub returns-clause-seen : goal.returns-clause-seen
returns-clause-seen g c = λ job. seen_stays (table_of g.Q.Query.facts job) job
