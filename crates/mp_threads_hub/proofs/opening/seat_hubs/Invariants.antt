-- The seats so far have their ways, and the others are still idle.
use Rattle.std.proofs.Common.{◌≡◌, ◌+◌, ◌≤◌, ◌++◌, All, length, vec_capacity}
use Rattle.std.specs.Arc.{arc_value}
use Rattle.std.specs.Vec.Iter.{into_iter_items}
use Rattle.mp_seat.specs.Seats.{IsIdle}
use Rattle.mp_threads_hub.proofs.opening.seat_hubs.Given as goal

abbrev pub invariant-loop-seat : goal.invariant-loop-seat
invariant-loop-seat g l = record {
  next : (goal.iterator-loop-seat g).can_next l.seat-iterator × (goal.iterator-loop-seat g).is_finite l.seat-iterator;
  hubs : l.hubs.items ++ into_iter_items l.seat-iterator ≡ l.fn.seats.items;
  idle : All (IsIdle (arc_value l.lock)) (into_iter_items l.seat-iterator);
  room : length l.hubs.items + length (into_iter_items l.seat-iterator) ≤ vec_capacity l.hubs;
}
