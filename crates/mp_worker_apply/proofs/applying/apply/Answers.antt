use Rattle.mp_worker_apply.proofs.applying.apply.Goals as goal

pub apply_ready-requires-clause-ready : goal.apply_ready-requires-clause-ready
apply_ready-requires-clause-ready g c κs within =
    let made = c.make_room_to_apply.ensures in
    rw (made.held.0, made.held.1, made.same) c.in-Some.ensures.ready

pub apply_ready-requires-clause-enough : goal.apply_ready-requires-clause-enough
apply_ready-requires-clause-enough g c κs within =
    rw c.make_room_to_apply.ensures.held.0 (c.in-Some.ensures.enough c.in_ok-make_room_to_apply.ensures.whole)

pub returns : goal.returns
returns g c = rw (← c.make_room_to_apply.ensures.same) c.apply_ready.ensures
