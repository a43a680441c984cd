use Rattle.std.proofs.Common.{◌≡◌, ◌<◌, length, refl, ap, arith}
use Rattle.mp_seat.proofs.Keeps.{begins}
use Rattle.mp_seat.proofs.lock.SeatLock.open.Goals as goal

pub new-requires : goal.new-requires
new-requires g c =
    let many : length (g.T.Rows.rows c.of-opened.result.value) ≡ length (g.T.Rows.rows c.args.value) = ap (λ v. length (g.T.Rows.rows v)) c.of-opened.ensures in
    let more : 0 < length (g.T.Rows.rows c.of-opened.result.value) = omega (arith, c.requires.rows, c.requires.some) in
    rw (c.push_reserved.ensures.items, c.in_ok-slots.ensures.items, ← c.of-opened.ensures) (begins g.T.Rows.rows g.T.Rows.version _ c.of-opened.result.value refl more)
