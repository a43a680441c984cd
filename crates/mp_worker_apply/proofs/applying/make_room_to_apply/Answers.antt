use Rattle.std.proofs.Common.{◌∙◌, ap, arith, map}
use Rattle.mp_worker_apply.specs.Onward.{content}
use Rattle.mp_worker_apply.proofs.Applied.{all_written}
use Rattle.mp_worker_invariant.proofs.Items.{same_length}
use Rattle.mp_worker_apply.proofs.Fitting.{onward_roomy}
use Rattle.mp_worker_apply.proofs.applying.make_room_to_apply.Goals as goal

pub invariant_of-parts-in_err-make_room_onward : goal.invariant_of-parts-in_err-make_room_onward
invariant_of-parts-in_err-make_room_onward g c =
    let made = c.make_room_onward in
    rw c.in_ok-make_room.ensures.made
    (onward_roomy c.parts.invariant made.new.routers c.parts.inside.routers.len made.new.unsent.rows c.parts.inside.routers.ok.0 (made.ensures.held ∙ ap (map content) c.deref_mut.ensures.value) made.ensures.rows)

pub invariant_of-parts-2 : goal.invariant_of-parts-2
invariant_of-parts-2 g c =
    let made = c.make_room_onward in
    rw c.in_ok-make_room.ensures.made
    (onward_roomy c.parts.invariant made.new.routers c.parts.inside.routers.len made.new.unsent.rows c.parts.inside.routers.ok.0 (made.ensures.held ∙ ap (map content) c.deref_mut.ensures.value) made.ensures.rows)

pub returns-clause-room : goal.returns-clause-room
returns-clause-room g c =
    let i = c.parts.inside in
    let same = c.make_room_onward.ensures.held ∙ ap (map content) c.deref_mut.ensures.value in
    let room = c.in_ok-make_room_onward.ensures in
    let lists = c.in_ok-make_room_for_changes.ensures in
    rw (all_written i.routers.len i.routers.items c.make_room_onward.new.routers i.routers.ok.0 (same_length content i.routers.items c.make_room_onward.new.routers same), c.in_ok-make_room.ensures.made)
    (record { names = omega arith; changes = omega arith; empty = lists.empty; list = omega (arith, lists.room); router = room.router; unsent = room.unsent })

pub invariant_of-parts : goal.invariant_of-parts
invariant_of-parts g c = rw c.in_err-make_room.ensures.unchanged c.parts.invariant

pub invariant_of-parts-in_err-make_room_for_changes : goal.invariant_of-parts-in_err-make_room_for_changes
invariant_of-parts-in_err-make_room_for_changes g c = rw c.in_ok-make_room.ensures.made c.parts.invariant
