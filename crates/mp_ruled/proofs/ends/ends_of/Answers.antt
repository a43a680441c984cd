use Rattle.std.proofs.Common.{rules}
use Rattle.mp_ruled.proofs.Keeps.{begins, may_open}
use Rattle.mp_ruled.proofs.ends.ends_of.Goals as goal

pub ruled-requires-clause-rule : goal.ruled-requires-clause-rule
ruled-requires-clause-rule g c = begins g.M.Named.names g.M.Named.from g.M.Named.to

pub another-other-requires-clause-rule : goal.another-other-requires-clause-rule
another-other-requires-clause-rule g c = may_open g.M.Named.names g.M.Named.from g.M.Named.to _ _ _ _ _ (search rules) (search rules) (search rules)
