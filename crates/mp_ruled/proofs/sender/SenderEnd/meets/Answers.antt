use Rattle.std.proofs.Common.{rules}
use Rattle.mp_ruled.proofs.Keeps.{may_meet, may_part, met}
use Rattle.mp_ruled.proofs.sender.SenderEnd.meets.Goals as goal

pub absorb-requires-clause-rule : goal.absorb-requires-clause-rule
absorb-requires-clause-rule g c = may_meet g.M.Named.names g.M.Named.from g.M.Named.to _ _ _ _ c.self.invariant.pushes c.receiver.invariant.pops

pub learn_as-requires-clause-rule : goal.learn_as-requires-clause-rule
learn_as-requires-clause-rule g c = met g.M.Named.names g.M.Named.from g.M.Named.to _ _ (search rules) (search rules)

pub another-other-requires-clause-rule : goal.another-other-requires-clause-rule
another-other-requires-clause-rule g c = may_part g.M.Named.names g.M.Named.from g.M.Named.to _ _ (search rules) (search rules)
