use Rattle.std.proofs.Common.{◌<◌, ◌≤◌, ap, length, rules}
use Rattle.mp_names.specs.Limits.{most_in_bundle}
use Rattle.mp_host_laws.specs.Hosted.{Hosted}
use Rattle.mp_worker_take.specs.Rooms.{without_room}
use Rattle.mp_worker_invariant.proofs.Items.{one_more_so, same_put}
use Rattle.mp_worker_take.proofs.room.make_room_in_hosts.Goals as goal

pub loop-host-preserved : goal.loop-host-preserved
loop-host-preserved g c =
    let l = c.loop-host in
    let new = c.make_room.new.self in
    let inside : l.host-index < length l.host-items = search rules in
    let ok = c.in_ok-make_room.ensures in
    record {
      same = same_put without_room c.args.hosts.now l.host-items l.host-index c.host-item.result new l.invariant.same (ap without_room c.make_room.ensures.same);
      roomy = one_more_so (λ (h : Hosted g.row.Q-Cell.Denot). (most_in_bundle ≤ h.room) × (1 ≤ h.room_for_bins)) l.host-items l.host-index new l.invariant.roomy (ok.room, ok.for_bins) inside;
    }

pub returns-in_err-make_room-clause-same : goal.returns-in_err-make_room-clause-same
returns-in_err-make_room-clause-same g c =
    let l = c.loop-host in
    same_put without_room c.args.hosts.now l.host-items l.host-index c.host-item.result c.make_room.new.self l.invariant.same (ap without_room c.make_room.ensures.same)
