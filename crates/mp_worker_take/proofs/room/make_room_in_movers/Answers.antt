use Rattle.std.proofs.Common.{◌<◌, ◌≤◌, ap, length, rules}
use Rattle.mp_handoff.specs.MoversState.{MoversState}
use Rattle.mp_worker_take.specs.Rooms.{roomless}
use Rattle.mp_worker_invariant.proofs.Items.{one_more_so, same_put}
use Rattle.mp_worker_take.proofs.room.make_room_in_movers.Goals as goal

pub loop-one-preserved : goal.loop-one-preserved
loop-one-preserved g c =
    let l = c.loop-one in
    let inside : l.one-index < length l.one-items = search rules in
    record {
      same = same_put roomless c.args.movers.now l.one-items l.one-index c.one-item.result c.make_room.new.self l.invariant.same (ap roomless c.make_room.ensures.same);
      roomy = one_more_so (λ (m : MoversState). 1 ≤ m.room) l.one-items l.one-index c.make_room.new.self l.invariant.roomy c.in_ok-make_room.ensures.room inside;
    }
