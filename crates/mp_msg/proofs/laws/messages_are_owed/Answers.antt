use Rattle.mp_msg.proofs.Owed.{controls_are_owed, owed_records_are_there, packets_are_owed, records_are_owed, rows_are_owed}
use Rattle.mp_msg.proofs.laws.messages_are_owed.Goals as goal
use Rattle.mp_model.specs.Tables.{table_of}

pub returns-clause-controls : goal.returns-clause-controls
returns-clause-controls g c = λ job. controls_are_owed (table_of g.Q.Query.facts job) job

pub returns-clause-packets : goal.returns-clause-packets
returns-clause-packets g c = λ job. packets_are_owed (table_of g.Q.Query.facts job) job

pub returns-clause-records : goal.returns-clause-records
returns-clause-records g c = λ job. records_are_owed (table_of g.Q.Query.facts job) job

pub returns-clause-rows : goal.returns-clause-rows
returns-clause-rows g c = λ job. rows_are_owed (table_of g.Q.Query.facts job) job

pub returns-clause-there : goal.returns-clause-there
returns-clause-there g c = λ job. owed_records_are_there (table_of g.Q.Query.facts job) job
