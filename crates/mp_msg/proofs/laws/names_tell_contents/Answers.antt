use Rattle.mp_msg.proofs.States.{states_follow_names}
use Rattle.mp_msg.proofs.Telling.{bodies_follow_names, bundles_follow_names, records_follow_names, rows_follow_names}
use Rattle.mp_msg.proofs.laws.names_tell_contents.Goals as goal
use Rattle.mp_model.specs.Tables.{table_of}

pub returns-clause-records : goal.returns-clause-records
returns-clause-records g c = λ job. records_follow_names (table_of g.Q.Query.facts job) job

pub returns-clause-rows : goal.returns-clause-rows
returns-clause-rows g c = λ job. rows_follow_names (table_of g.Q.Query.facts job) job

pub returns-clause-states : goal.returns-clause-states
returns-clause-states g c = λ job. states_follow_names (table_of g.Q.Query.facts job) job

pub returns-clause-bodies : goal.returns-clause-bodies
returns-clause-bodies g c = λ job. bodies_follow_names (table_of g.Q.Query.facts job) job

pub returns-clause-bundles : goal.returns-clause-bundles
returns-clause-bundles g c = λ job. bundles_follow_names (table_of g.Q.Query.facts job) job
