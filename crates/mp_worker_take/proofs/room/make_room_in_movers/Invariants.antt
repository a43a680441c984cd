-- The movers are the same but for their rooms, and those before have room.
use Rattle.std.proofs.Common.{ℕ, ◌<◌, ◌≤◌, get_or}
use Rattle.mp_handoff.specs.MoversState.{MoversState}
use Rattle.mp_worker_take.specs.Rooms.{SameMovers}
use Rattle.mp_worker_take.proofs.room.make_room_in_movers.Given as goal

abbrev pub invariant-loop-one : goal.invariant-loop-one
invariant-loop-one g l =
    record {
      same : SameMovers l.fn.movers l.one-items;
      roomy : (k : ℕ) (d : MoversState) → k < l.one-index → 1 ≤ (get_or l.one-items k d).room;
    }
