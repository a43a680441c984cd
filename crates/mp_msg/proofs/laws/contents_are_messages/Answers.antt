use Rattle.mp_msg.proofs.Messages.{bodies_are_messages}
use Rattle.mp_msg.proofs.laws.contents_are_messages.Goals as goal
use Rattle.mp_model.specs.Tables.{table_of}

pub returns : goal.returns
returns g c = λ job. bodies_are_messages (table_of g.Q.Query.facts job) job
