use Rattle.std.proofs.Common.{Contains}
use Rattle.std.proofs.lemmas.Option.{IfSome_then}
use Rattle.mp_model.specs.Stages.{answer_rows}
use Rattle.mp_model.specs.Tables.{table_of}
use Rattle.mp_output.proofs.Sending.{all_left, back_in_front}
use Rattle.mp_output.proofs.unsent.Unsent.pop_first.Goals as goal

pub invariant_of-self : goal.invariant_of-self
invariant_of-self g c =
    let rows = answer_rows (table_of g.Q.Query.facts g.J.Naming.job) g.J.Naming.job.events in
    all_left (Contains rows) c.self.inside.rows c.pop_first.new.self c.pop_first.result c.self.invariant c.pop_first.ensures.some c.pop_first.ensures.unchanged

pub returns-clause-back : goal.returns-clause-back
returns-clause-back g c =
    let order = c.first.ensures.in_order in
    rw (← c.self.view_is) (IfSome_then c.pop_first.result c.pop_first.ensures.some (λ x first. back_in_front x c.self.inside.rows.items c.pop_first.new.self.items c.first.ensures.goes_back order first))
