-- The hosts are the same but for their rooms, and those before have room.
use Rattle.std.proofs.Common.{ℕ, ◌<◌, ◌≤◌, get_or}
use Rattle.mp_names.specs.Limits.{most_in_bundle}
use Rattle.mp_host_laws.specs.Hosted.{Hosted}
use Rattle.mp_worker_take.specs.Rooms.{SameHosts}
use Rattle.mp_worker_take.proofs.room.make_room_in_hosts.Given as goal

abbrev pub invariant-loop-host : goal.invariant-loop-host
invariant-loop-host g l =
    record {
      same : SameHosts l.fn.hosts l.host-items;
      roomy : (k : ℕ) (d : Hosted g.row.Q-Cell.Denot) → k < l.host-index → (most_in_bundle ≤ (get_or l.host-items k d).room) × (1 ≤ (get_or l.host-items k d).room_for_bins);
    }
