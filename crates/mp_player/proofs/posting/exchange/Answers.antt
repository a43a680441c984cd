use Rattle.std.proofs.Common.{◌≡◌, ◌<◌, length, Some, refl, sym, ◌∙◌, arith}
use Rattle.std.proofs.lemmas.Bool.{false≢true}
use Rattle.std.specs.List.{slice_get}
use Rattle.std.proofs.lemmas.Option.{slice_get_read}
use Rattle.mp_player.proofs.Exchanging.{may_is}
use Rattle.mp_player.proofs.posting.exchange.Goals as goal

pub returns-then-not-may_exchange-clause-refused : goal.returns-then-not-may_exchange-clause-refused
returns-then-not-may_exchange-clause-refused g c = λ done depth world shows can gives.
    let o = g.C.Chart.outline c.args.chart.now in
    let state = c.args.state.now in
    let w = c.args.worker in
    let s = c.index.result.now in
    let there : slice_get state.standings.items w ≡ Some s = slice_get_read state.standings.items (length state.standings.items) w s refl (omega arith) c.index.ensures in
    false≢true (sym c.if-not-may_exchange.true ∙ c.may_exchange.ensures.1 ((may_is o depth world state shows w s there c.args.version).1 (can.1, gives)))

pub returns-clause-made : goal.returns-clause-made
returns-clause-made g c = λ done depth world shows.
    let o = g.C.Chart.outline c.args.chart.now in
    let state = c.args.state.now in
    let w = c.args.worker in
    let s = c.index.result.now in
    let there : slice_get state.standings.items w ≡ Some s = slice_get_read state.standings.items (length state.standings.items) w s refl (omega arith) c.index.ensures in
    let may = (may_is o depth world state shows w s there c.args.version).0 (c.may_exchange.ensures.0 c.if-not-may_exchange.false) in
    let low : w < o.workers = omega (arith, c.workers.ensures, c.if-worker-workers.false) in
    ((low, may.0), may.1, c.post.ensures o depth world shows (low, may.0) may.1)
