-- The pieces before the first count hold zeros.
use Rattle.std.proofs.Common.{◌≡◌, ◌+◌, ◌*◌, ◌<◌, length, rules, arith}
use Rattle.mp_stamps.specs.Rows.{IsZeroAt, joined}
use Rattle.mp_stamps.proofs.Firsts.{is_closed, quiet_to}
use Rattle.mp_stamps.proofs.Joined.{joined_length, zero_piece}
use Rattle.mp_stamps.proofs.row.span_after.Goals as goal

pub next_span-requires-clause-within : goal.next_span-requires-clause-within
next_span-requires-clause-within c = omega (arith, c.requires.before.within, joined_length c.args.pieces.now c.requires.whole)

pub next_span-requires-clause-quiet : goal.next_span-requires-clause-quiet
next_span-requires-clause-quiet c =
    let ps = c.args.pieces.now in
    let i = c.args.index in
    let z : IsZeroAt (joined ps) i = is_closed _ c.args.is_open c.requires.open c.if-is_open.false in
    let e : i ≡ c.args.span.first = search rules in
    λ b l.
    let m : b < length ps = omega (arith, l, c.requires.index) in
    zero_piece ps c.requires.whole b m (λ k n. quiet_to (IsZeroAt (joined ps)) (length (joined ps)) c.args.span.first i c.requires.before.first_but z e (1024 * b + k) (omega (arith, e, l, n)))
