use Rattle.std.proofs.Common.{◌∙◌, arith}
use Rattle.mp_worker_invariant.proofs.Others.{other_router}
use Rattle.mp_worker_invariant.proofs.Standing.{router_at}
use Rattle.mp_worker_steps.proofs.Ingested.{some_router}
use Rattle.mp_worker_parts.proofs.Keeping.{kept_as}
use Rattle.mp_worker_steps.proofs.ingesting.make_room_to_ingest.Goals as goal

pub index_mut-requires : goal.index_mut-requires
index_mut-requires g c =
    omega (arith, (some_router c.parts.invariant.sound c.parts.invariant.parts), c.parts.inside.routers.ok.0)

pub invariant_of-parts-2 : goal.invariant_of-parts-2
invariant_of-parts-2 g c =
    let kept = c.parts.invariant in
    let at = router_at kept.parts 0 kept.sound.some_stage c.index_mut.result.now c.index_mut.ensures.value in
    let new = c.make_room-2.ensures in
    rw c.in_ok-make_room.ensures.made
    (kept_as kept (other_router kept.parts 0 c.make_room-2.new.self (new.stage ∙ at.0, record { once = rw (new.held, new.stage) at.1.once; unsent = rw (new.held, new.stage) at.1.unsent })))

pub invariant_of-parts : goal.invariant_of-parts
invariant_of-parts g c = rw c.in_err-make_room.ensures.unchanged c.parts.invariant
