use Rattle.mp_ruled.proofs.Keeps.{may_read_sent}
use Rattle.mp_ruled.proofs.receiver.ReceiverEnd.hear.Goals as goal

pub absorb-requires-clause-rule : goal.absorb-requires-clause-rule
absorb-requires-clause-rule g c = may_read_sent g.M.Named.names g.M.Named.from g.M.Named.to _ _ _ _ c.self.invariant.pushes_not
