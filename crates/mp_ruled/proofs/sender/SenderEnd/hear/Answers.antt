use Rattle.mp_ruled.proofs.Keeps.{may_read_got}
use Rattle.mp_ruled.proofs.sender.SenderEnd.hear.Goals as goal

pub absorb-requires-clause-rule : goal.absorb-requires-clause-rule
absorb-requires-clause-rule g c = may_read_got g.M.Named.names g.M.Named.from g.M.Named.to _ _ _ _ c.self.invariant.pops_not
