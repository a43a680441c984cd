use Rattle.crossbeam_queue.specs.Passes.{view}
use Rattle.mp_ruled.proofs.Keeps.{may_pop, arrives}
use Rattle.mp_ruled.proofs.Answered.{none_of_match, all_arrived}
use Rattle.mp_ruled.proofs.receiver.ReceiverEnd.pop.Goals as goal

pub pop_as-requires-clause-rule : goal.pop_as-requires-clause-rule
pop_as-requires-clause-rule g c = (may_pop g.M.Named.names g.M.Named.from g.M.Named.to _ _ c.self.invariant.pops, arrives g.M.Named.names g.M.Named.from g.M.Named.to _ _ c.self.invariant.pops)

pub returns-clause-empty : goal.returns-clause-empty
returns-clause-empty g c = rw (← c.self.view_is) (none_of_match _ c.pop_as.result c.pop_as.ensures.rule (λ told. all_arrived (view c.self.inside.pass) told.1))
