use Rattle.mp_msg.proofs.Messages.{bodies_are_messages}
use Rattle.mp_msg.proofs.message.Msg.names.Goals as goal
use Rattle.mp_model.specs.Tables.{table_of}

pub returns-in-Recs-clause-message : goal.returns-in-Recs-clause-message
returns-in-Recs-clause-message g c = rw (← c.self.view_is) (bodies_are_messages (table_of g.Q.Query.facts g.J.Naming.job) g.J.Naming.job c.self.inside.body c.self.invariant).0

pub returns-in-Recs-clause-sender : goal.returns-in-Recs-clause-sender
returns-in-Recs-clause-sender g c = rw (← c.self.view_is) (bodies_are_messages (table_of g.Q.Query.facts g.J.Naming.job) g.J.Naming.job c.self.inside.body c.self.invariant).1

pub returns-in-Recs-clause-owed : goal.returns-in-Recs-clause-owed
returns-in-Recs-clause-owed g c = rw (← c.self.view_is) (bodies_are_messages (table_of g.Q.Query.facts g.J.Naming.job) g.J.Naming.job c.self.inside.body c.self.invariant).2

pub returns-in-Packet-clause-owed : goal.returns-in-Packet-clause-owed
returns-in-Packet-clause-owed g c = rw (← c.self.view_is) (bodies_are_messages (table_of g.Q.Query.facts g.J.Naming.job) g.J.Naming.job c.self.inside.body c.self.invariant).2

pub returns-in-Row-clause-owed : goal.returns-in-Row-clause-owed
returns-in-Row-clause-owed g c = rw (← c.self.view_is) (bodies_are_messages (table_of g.Q.Query.facts g.J.Naming.job) g.J.Naming.job c.self.inside.body c.self.invariant).2
