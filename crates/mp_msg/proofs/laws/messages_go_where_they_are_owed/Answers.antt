use Rattle.mp_outline.specs.JobOutline.{outline_of}
use Rattle.mp_msg.proofs.Messages.{sent_from, sent_to}
use Rattle.mp_msg.proofs.laws.messages_go_where_they_are_owed.Goals as goal
use Rattle.mp_model.specs.Tables.{table_of}

pub returns-clause-from : goal.returns-clause-from
returns-clause-from g c = sent_from (outline_of (table_of g.Q.Query.facts g.J.Naming.job) g.J.Naming.job)

pub returns-clause-to : goal.returns-clause-to
returns-clause-to g c = sent_to (outline_of (table_of g.Q.Query.facts g.J.Naming.job) g.J.Naming.job)
