use Rattle.std.proofs.Common.{◌≡◌, length, Some, refl, ap, ◌∙◌, arith}
use Rattle.std.specs.List.{slice_get}
use Rattle.std.proofs.lemmas.Option.{slice_get_read}
use Rattle.mp_names.specs.declared.kinds.Kind.TheVariants.{Write}
use Rattle.mp_standing.proofs.Advanced.{reached_right}
use Rattle.mp_player.proofs.Ended.{written_tells}
use Rattle.mp_player.proofs.ending.has_written_all.Goals as goal

pub returns : goal.returns
returns g c = λ depth world shows.
    let o = g.C.Chart.outline c.args.chart.now in
    let state = c.args.state.now in
    let s = c.index.result.now in
    let there : slice_get state.standings.items 0 ≡ Some s = slice_get_read state.standings.items (length state.standings.items) 0 s refl (let e = shows.workers in let l = shows.reached.sound.some_worker in omega arith) c.index.ensures in
    let ok = shows.reached.sound in
    let number = c.count-written.ensures ∙ (shows.each 0 s there).done Write tt in
    let tells = written_tells o ok (world.worker 0).log ((reached_right o depth world shows.reached).logs 0 ok.some_worker) c.count-written.result (length c.list.result.now) number (ap length c.list.ensures) in
    ((λ h. tells.0 (c.is_within.ensures.0 h)), (λ all. c.is_within.ensures.1 (tells.1 all)))
