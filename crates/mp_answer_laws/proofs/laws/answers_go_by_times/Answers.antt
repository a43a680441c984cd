use Rattle.mp_answer_laws.proofs.Written.{full_logs_answer, parts_of_lines_begin, written_lines_begin}
use Rattle.mp_answer_laws.proofs.laws.answers_go_by_times.Goals as goal
use Rattle.mp_model.specs.Tables.{table_of}

pub returns-clause-begin : goal.returns-clause-begin
returns-clause-begin g c = λ job legal. written_lines_begin (table_of g.Q.Query.facts job) job

pub returns-clause-part : goal.returns-clause-part
returns-clause-part g c = λ job legal. parts_of_lines_begin (table_of g.Q.Query.facts job) job

pub returns-clause-all : goal.returns-clause-all
returns-clause-all g c = λ job legal. full_logs_answer (table_of g.Q.Query.facts job) job
