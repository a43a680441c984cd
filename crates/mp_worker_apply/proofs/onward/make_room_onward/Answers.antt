use Rattle.std.proofs.Common.{◌≡◌, ◌∙◌, ap, arith}
use Rattle.std.proofs.Math.Seq.{map-set_same}
use Rattle.std.proofs.lemmas.Option.{slice_get_within}
use Rattle.std.proofs.lemmas.Result.{on_ok_weaker}
use Rattle.mp_worker_apply.specs.Onward.{content}
use Rattle.mp_worker_apply.proofs.OneByOne.{new_there, some_there}
use Rattle.mp_worker_apply.proofs.onward.make_room_onward.Goals as goal

pub returns-then-at-routers-clause-held : goal.returns-then-at-routers-clause-held
returns-then-at-routers-clause-held g c =
    let old = c.index-routers-at.result in
    let new = c.make_room.new.self in
    let same : content new ≡ content old = cc in
    map-set_same content c.args.routers.now c.args.at new old (same ∙ ap content c.index-routers-at.is)

pub returns-then-at-routers-clause-router : goal.returns-then-at-routers-clause-router
returns-then-at-routers-clause-router g c =
    on_ok_weaker c.make_room.result (λ room r e. rw (← new_there c.args.routers.now c.args.at c.make_room.new.self r e) room) c.make_room.ensures.room

pub returns-then-at-routers-clause-unsent : goal.returns-then-at-routers-clause-unsent
returns-then-at-routers-clause-unsent g c =
    on_ok_weaker c.make_room.result (λ room e. absurd (some_there c.args.routers.now c.args.at c.make_room.new.self c.if-at-routers.true e)) c.make_room.ensures.room

pub returns-else-at-routers-clause-router : goal.returns-else-at-routers-clause-router
returns-else-at-routers-clause-router g c =
    on_ok_weaker c.make_room-else-at-routers.result (λ room r e. let within = slice_get_within c.args.routers.now c.args.at r e in absurd (omega (arith, c.if-at-routers.false))) c.make_room-else-at-routers.ensures.room
