use Rattle.std.proofs.Common.{◌≡◌, ◌≤◌, length, vec_capacity}
use Rattle.mp_seat.specs.Seats.{AreNew}
use Rattle.mp_seat.specs.Seated.{HasRest}
use Rattle.mp_seat.proofs.lock.SeatLock.deal_all.Given as goal

abbrev pub invariant-loop-number : goal.invariant-loop-number
invariant-loop-number g l = record {
  room : l.seats ≤ vec_capacity l.list;
  many : length l.list.items ≡ l.number;
  new : AreNew l.self (g.T.Rows.rows l.opened.value) (g.T.Rows.version l.opened.value) l.list.items;
  rest : HasRest l.self (g.T.Rows.rows l.opened.value) (g.T.Rows.version l.opened.value) (length l.list.items) l.all;
}
