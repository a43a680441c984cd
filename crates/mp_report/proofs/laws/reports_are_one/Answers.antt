use Rattle.mp_report.proofs.One.{one_report}
use Rattle.mp_report.proofs.laws.reports_are_one.Goals as goal
use Rattle.mp_model.specs.Tables.{table_of}

pub returns : goal.returns
returns g c = λ job. one_report (table_of g.Q.Query.facts job) job
