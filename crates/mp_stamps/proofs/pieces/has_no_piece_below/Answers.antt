use Rattle.std.proofs.Common.{◌≡◌, ◌<◌, ◌≤◌, arith, get_or, length, rules}
use Rattle.std.proofs.lemmas.Bool.{leb-true}
use Rattle.mp_stamps.proofs.Times.{no_more_below}
use Rattle.mp_stamps.proofs.pieces.has_no_piece_below.Goals as goal

pub returns-in-Some : goal.returns-in-Some
returns-in-Some c =
    let times = c.args.times.now in
    let last = c.saturating_add-last.result in
    let inside : last < length times = search rules in
    let there : c.in-Some.there.now ≡ get_or times last 0 = search rules in
    λ e.
    let at : c.args.time ≤ c.in-Some.there.now = leb-true c.args.time c.in-Some.there.now e in
    no_more_below times c.args.time c.args.given last inside (omega (arith, at, there)) (omega (arith, c.saturating_add-last.ensures, c.saturating_mul.ensures))
