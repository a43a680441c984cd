use Rattle.std.proofs.Common.{vec_len}
use Rattle.mp_seat.specs.Seats.{AreInOrder}
use Rattle.mp_seat.proofs.Gathering.{Gathers}
use Rattle.mp_seat.proofs.lock.SeatLock.close_in_order.Given as goal

abbrev pub invariant-loop-seat : goal.invariant-loop-seat
invariant-loop-seat g l = record {
  seats : AreInOrder l.fn.self l.seats.items;
  all : Gathers l.fn.self l.seats.items l.fn.seats.items l.all;
}

abbrev pub decreases-loop-seat : goal.decreases-loop-seat
decreases-loop-seat g l = vec_len l.seats
