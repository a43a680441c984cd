use Rattle.std.proofs.Common.{◌≡◌, ◌<◌, length, Some, refl, sym, ◌∙◌, subst, arith}
use Rattle.std.proofs.lemmas.Bool.{false≢true}
use Rattle.std.specs.List.{slice_get}
use Rattle.std.proofs.lemmas.Option.{slice_get_read}
use Rattle.mp_names.specs.Frontiers.{HasPassed}
use Rattle.mp_names.specs.declared.locations.Frontier.{Frontier}
use Rattle.mp_names.specs.declared.locations.Loc.TheVariants.{CtlMail}
use Rattle.mp_standing.specs.Boxes.{box_of}
use Rattle.mp_stamps.specs.Seen.{seen_at}
use Rattle.mp_player.proofs.Routed.{none_first, none_passed, none_room, next_found}
use Rattle.mp_player.proofs.routing.next_bundle.Goals as goal

pub returns-in_default-clause-none : goal.returns-in_default-clause-none
returns-in_default-clause-none g c = λ world shows.
    let o = g.C.Chart.outline c.args.chart.now in
    let w = c.args.worker in
    let state = c.args.state.now in
    let s = c.index-standing.result.now in
    let there : slice_get state.standings.items w ≡ Some s = slice_get_read state.standings.items (length state.standings.items) w s refl (omega arith) c.index-standing.ensures in
    none_first o c.args.depth world state shows w s there c.args.stage c.in_default.ensures.none

pub returns-then-not-passed-clause-none : goal.returns-then-not-passed-clause-none
returns-then-not-passed-clause-none g c = λ world shows.
    let o = g.C.Chart.outline c.args.chart.now in
    let w = c.args.worker in
    let state = c.args.state.now in
    let s = c.index-standing.result.now in
    let there : slice_get state.standings.items w ≡ Some s = slice_get_read state.standings.items (length state.standings.items) w s refl (omega arith) c.index-standing.ensures in
    let m = c.in-Some.message in
    let first = c.in-Some.ensures.some in
    none_passed o c.args.depth world state shows w s there c.args.stage m c.bundle.result c.bundle.ensures first (λ h. false≢true (sym c.if-not-passed.true ∙ c.passed.ensures.1 (subst (λ (f : Frontier). HasPassed f m.first.time) (sym c.frontier.ensures) h)))

pub returns-then-count-depth-clause-none : goal.returns-then-count-depth-clause-none
returns-then-count-depth-clause-none g c = λ world shows.
    let o = g.C.Chart.outline c.args.chart.now in
    let w = c.args.worker in
    let state = c.args.state.now in
    let s = c.index-standing.result.now in
    let there : slice_get state.standings.items w ≡ Some s = slice_get_read state.standings.items (length state.standings.items) w s refl (omega arith) c.index-standing.ensures in
    let m = c.in-Some.message in
    let first = c.in-Some.ensures.some in
    none_room o c.args.depth world state shows w s there c.args.stage m c.bundle.result c.bundle.ensures first (λ h. omega (arith, c.count.ensures))

pub returns-clause-next : goal.returns-clause-next
returns-clause-next g c = λ world shows.
    let o = g.C.Chart.outline c.args.chart.now in
    let w = c.args.worker in
    let state = c.args.state.now in
    let s = c.index-standing.result.now in
    let there : slice_get state.standings.items w ≡ Some s = slice_get_read state.standings.items (length state.standings.items) w s refl (omega arith) c.index-standing.ensures in
    let m = c.in-Some.message in
    let first = c.in-Some.ensures.some in
    let low : w < o.workers = omega (arith, c.workers.ensures, c.if-worker-workers.false) in
    let passed : HasPassed (seen_at s.seen CtlMail) m.first.time = subst (λ (f : Frontier). HasPassed f m.first.time) c.frontier.ensures (c.passed.ensures.0 c.if-not-passed.false) in
    let room : length (box_of state.mail w m.first.receiver) < c.args.depth = omega (arith, c.count.ensures) in
    next_found o c.args.depth world state shows w s there c.args.stage m c.bundle.result c.bundle.ensures first low passed room
