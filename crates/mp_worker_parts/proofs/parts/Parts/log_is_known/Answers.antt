use Rattle.mp_worker_parts.proofs.parts.Parts.log_is_known.Goals as goal

pub returns : goal.returns
returns g c =
    let kept = c.self.invariant in
    rw (← c.self.view_is) (record { inside = kept.parts.worker; sound = kept.sound; legal = kept.parts.legal; done = kept.parts.done })
