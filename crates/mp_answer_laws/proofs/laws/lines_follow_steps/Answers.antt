use Rattle.mp_answer_laws.proofs.Written.{others_write_nothing, writing_adds_lines}
use Rattle.mp_answer_laws.proofs.laws.lines_follow_steps.Goals as goal
use Rattle.mp_model.specs.Tables.{table_of}

pub returns-clause-more : goal.returns-clause-more
returns-clause-more g c = λ job. writing_adds_lines (table_of g.Q.Query.facts job) job

pub returns-clause-none : goal.returns-clause-none
returns-clause-none g c = λ job. others_write_nothing (table_of g.Q.Query.facts job) job
