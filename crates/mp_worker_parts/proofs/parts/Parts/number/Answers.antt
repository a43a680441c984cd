use Rattle.mp_worker_parts.proofs.parts.Parts.number.Goals as goal

pub returns-clause-inside : goal.returns-clause-inside
returns-clause-inside g c = rw (← c.self.view_is) c.self.invariant.parts.worker
