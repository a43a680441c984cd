use Rattle.mp_model.specs.Tables.{table_of}
use Rattle.mp_outline.proofs.Groups.{groups_hold, groups_in_order}
use Rattle.mp_outline.proofs.laws.groups_hold_names.Goals as goal

pub returns-clause-names : goal.returns-clause-names
returns-clause-names g c = λ job. groups_hold (table_of g.Q.Query.facts job) job

pub returns-clause-in_order : goal.returns-clause-in_order
returns-clause-in_order g c = λ job. groups_in_order (table_of g.Q.Query.facts job) job
