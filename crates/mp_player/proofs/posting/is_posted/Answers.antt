use Rattle.std.proofs.Common.{◌≡◌, length, Some, refl, arith}
use Rattle.std.specs.List.{slice_get}
use Rattle.std.proofs.lemmas.Option.{slice_get_read}
use Rattle.mp_player.proofs.Exchanging.{posted_is}
use Rattle.mp_player.proofs.Idle.{idle_posted}
use Rattle.mp_player.proofs.posting.is_posted.Goals as goal

pub returns-then-worker-len : goal.returns-then-worker-len
returns-then-worker-len c = λ o depth world shows. ((λ t. idle_posted o depth world shows.reached c.args.worker (let long = shows.workers in omega arith)), (λ e. refl))

pub returns : goal.returns
returns c = λ o depth world shows.
    let state = c.args.state.now in
    let w = c.args.worker in
    let s = c.index.result.now in
    let there : slice_get state.standings.items w ≡ Some s = slice_get_read state.standings.items (length state.standings.items) w s refl (omega arith) c.index.ensures in
    posted_is o depth world state shows w s there
