use Rattle.std.proofs.Common.{◌≡◌, Some}
use Rattle.mp_seat.specs.Seats.{IsIdle}
use Rattle.mp_thread_examples.proofs.counts.raise_all.Given as goal

abbrev pub invariant-loop-number : goal.invariant-loop-number
invariant-loop-number g l = record {
  idle : IsIdle l.lock l.seat;
  place : l.seat.number ≡ l.at;
  row : l.seat.row ≡ Some l.number;
}
