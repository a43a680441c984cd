use Rattle.mp_handoff.proofs.movers.Movers.sent_so_far.Goals as goal

pub returns-clause-keys : goal.returns-clause-keys
returns-clause-keys g c = rw (← c.self.view_is) c.self.invariant.2
