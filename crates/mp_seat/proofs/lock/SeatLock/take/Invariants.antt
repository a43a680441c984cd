use Rattle.std.proofs.Common.{◌≡◌}
use Rattle.mp_seat.proofs.lock.SeatLock.take.Given as goal

abbrev pub invariant-loop : goal.invariant-loop
invariant-loop g l = l.seat ≡ l.initial.seat
