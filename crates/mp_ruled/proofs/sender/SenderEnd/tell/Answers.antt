use Rattle.mp_ruled.proofs.Keeps.{may_tell}
use Rattle.mp_ruled.proofs.sender.SenderEnd.tell.Goals as goal

pub another-requires-clause-rule : goal.another-requires-clause-rule
another-requires-clause-rule g c = may_tell g.M.Named.names g.M.Named.from g.M.Named.to _ _
