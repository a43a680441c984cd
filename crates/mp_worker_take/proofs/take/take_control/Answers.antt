use Rattle.std.proofs.Common.{ap, arith, length, refl}
use Rattle.mp_handoff.specs.MoversState.{MoversState}
use Rattle.mp_worker_parts.proofs.Keeping.{not_refused}
use Rattle.mp_worker_take.proofs.Rooms.{some_names}
use Rattle.mp_worker_take.proofs.Taking.{control_comes, control_stage}
use Rattle.mp_worker_take.proofs.take.take_control.Goals as goal

pub index_mut-movers-requires : goal.index_mut-movers-requires
index_mut-movers-requires g c =
    omega (arith, (control_stage c.parts.invariant c.args.index c.parts.inside.log.worker c.args.control (rw (← c.parts.view_is) at c.requires.content)), c.parts.inside.movers.ok.0)

pub push-requires : goal.push-requires
push-requires g c =
    let comes = control_comes c.parts.invariant c.parts.view_is c.args.index c.args.control c.requires.content c.requires.fresh c.requires.room c.index_mut-movers.ensures.value in
    record { changes = rw (c.worker.ensures, c.as_slice.ensures.all, c.new-changes.ensures) (comes.counted c.unsettled.result c.unsettled.ensures.told) }

pub unreachable-requires : goal.unreachable-requires
unreachable-requires g c =
    let room = rw (← c.parts.view_is) at c.requires.room in
    not_refused c.push.result (c.push.ensures.ready (some_names room.names) (omega (arith, room.changes, c.as_slice.ensures.few, ap length c.as_slice.ensures.all))) c.in_default.not-Ok

pub note-requires : goal.note-requires
note-requires g c =
    let comes = control_comes c.parts.invariant c.parts.view_is c.args.index c.args.control c.requires.content c.requires.fresh c.requires.room c.index_mut-movers.ensures.value in
    record { not_yet = comes.not_yet; within = comes.within }

pub unreachable-requires-in_default-note : goal.unreachable-requires-in_default-note
unreachable-requires-in_default-note g c = not_refused c.note.result (c.note.ensures.never_refused_with_room (rw (← c.parts.view_is) at c.requires.room).notes) c.in_default-note.not-Ok

pub unreachable-requires-in_default-note-2 : goal.unreachable-requires-in_default-note-2
unreachable-requires-in_default-note-2 g c =
    let comes = control_comes c.parts.invariant c.parts.view_is c.args.index c.args.control c.requires.content c.requires.fresh c.requires.room c.index_mut-movers.ensures.value in
    not_refused c.note-2.result (c.note-2.ensures.never_refused_with_room comes.room) c.in_default-note-2.not-Ok

pub invariant_of-parts : goal.invariant_of-parts
invariant_of-parts g c =
    let comes = control_comes c.parts.invariant c.parts.view_is c.args.index c.args.control c.requires.content c.requires.fresh c.requires.room c.index_mut-movers.ensures.value in
    rw (c.in-Ok.ensures.pushed, c.worker.ensures)
    (comes.taken c.note.new.self c.note.ensures.layout c.in-Ok-note.ensures.noted c.note-2.new.self
    (ap (λ (n : MoversState). n.stage) c.note-2.ensures.same) (ap (λ (n : MoversState). n.worker) c.note-2.ensures.same) c.in-Ok-note-2.ensures.held)

pub returns : goal.returns
returns g c = rw (← c.parts.view_is, c.in-Ok.ensures.pushed, c.worker.ensures) refl
