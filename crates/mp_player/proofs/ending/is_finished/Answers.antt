use Rattle.std.proofs.Common.{◌≡◌, ℕ, Option, subst}
use Rattle.std.specs.Prelude.{IsTrue, ◌↔◌}
use Rattle.mp_names.specs.declared.locations.Loc.{Loc}
use Rattle.mp_names.specs.Outlines.{IsBeforeStop}
use Rattle.mp_chart.specs.Left.{left_in}
use Rattle.mp_player.proofs.Ended.{all_over}
use Rattle.mp_player.proofs.ending.is_finished.Goals as goal

pub returns : goal.returns
returns g c = λ depth world shows.
    let o = g.C.Chart.outline c.args.chart.now in
    let state = c.args.state.now in
    let done = subst (λ (u : Option ℕ). IsTrue c.is_done-is_done.result ↔ ((a : Loc) (t : ℕ) → IsBeforeStop u t → left_in state.left.counts a t ≡ 0)) c.until.ensures c.is_done-is_done.ensures in
    all_over o depth world state shows c.is_done-is_done.result c.has_written_all-is_written.result done (c.has_written_all-is_written.ensures depth world shows) c.both.result c.both.ensures
