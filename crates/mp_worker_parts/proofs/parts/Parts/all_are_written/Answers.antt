use Rattle.mp_worker_parts.proofs.parts.Parts.all_are_written.Goals as goal

pub returns : goal.returns
returns g c = rw (← c.self.view_is) (c.is_empty.ensures.written c.self.inside.log.log c.self.invariant.parts.unwritten)
