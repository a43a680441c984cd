use Rattle.std.proofs.Common.{◌∙◌, ap, arith}
use Rattle.mp_model.specs.Facts.{JobFacts}
use Rattle.mp_model.specs.Tables.{table_of}
use Rattle.mp_worker_parts.specs.Contents.{number_of_post_times}
use Rattle.mp_worker_invariant.proofs.Items.{written_back}
use Rattle.mp_worker_parts.proofs.Keeping.{on_ok}
use Rattle.mp_worker_take.proofs.Rooms.{front_roomy, hosts_roomy, movers_roomy, times_fit}
use Rattle.mp_worker_take.specs.Rooms.{roomless, without_room}
use Rattle.mp_worker_take.proofs.room.make_room_to_take.Goals as goal

pub make_room-requires : goal.make_room-requires
make_room-requires g c =
    let few = times_fit c.parts.invariant in
    let times = c.count_of_post_times-times.ensures ∙ ap (λ (f : JobFacts). number_of_post_times (table_of g.Q.Query.facts f) f) c.parts.invariant.run in
    omega (arith, few, times)

pub make_room_in_front-requires-clause-few : goal.make_room_in_front-requires-clause-few
make_room_in_front-requires-clause-few g c κs within =
    let few = times_fit c.parts.invariant in
    let times = c.count_of_post_times-times.ensures ∙ ap (λ (f : JobFacts). number_of_post_times (table_of g.Q.Query.facts f) f) c.parts.invariant.run in
    omega (arith, few, times)

pub invariant_of-parts-in_err-make_room_in_front : goal.invariant_of-parts-in_err-make_room_in_front
invariant_of-parts-in_err-make_room_in_front g c =
    let made = c.make_room_in_front in
    front_roomy c.parts.invariant made.new.log made.ensures.same_log.0 made.new.owners made.new.rows.rows made.ensures.same_log.1 made.ensures.same_owners made.ensures.same_rows

pub invariant_of-parts-in_err-make_room_in_hosts : goal.invariant_of-parts-in_err-make_room_in_hosts
invariant_of-parts-in_err-make_room_in_hosts g c =
    let made = c.make_room_in_front in
    let front = front_roomy c.parts.invariant made.new.log made.ensures.same_log.0 made.new.owners made.new.rows.rows made.ensures.same_log.1 made.ensures.same_owners made.ensures.same_rows in
    hosts_roomy front c.deref_mut.result.now c.make_room_in_hosts.new.hosts c.parts.inside.hosts.len c.deref_mut.ensures.value c.deref_mut.ensures.len c.make_room_in_hosts.ensures.same

pub invariant_of-parts-2 : goal.invariant_of-parts-2
invariant_of-parts-2 g c =
    let made = c.make_room_in_front in
    let front = front_roomy c.parts.invariant made.new.log made.ensures.same_log.0 made.new.owners made.new.rows.rows made.ensures.same_log.1 made.ensures.same_owners made.ensures.same_rows in
    let hosts = hosts_roomy front c.deref_mut.result.now c.make_room_in_hosts.new.hosts c.parts.inside.hosts.len c.deref_mut.ensures.value c.deref_mut.ensures.len c.make_room_in_hosts.ensures.same in
    movers_roomy hosts c.deref_mut-2.result.now c.make_room_in_movers.new.movers c.parts.inside.movers.len c.deref_mut-2.ensures.value c.deref_mut-2.ensures.len c.make_room_in_movers.ensures.same

pub returns-clause-room : goal.returns-clause-room
returns-clause-room g c =
    let i = c.parts.inside in
    let ok = c.in_ok-make_room_in_front.ensures in
    let lists = c.in_ok-make_room.ensures in
    let times = c.count_of_post_times-times.ensures ∙ ap (λ (f : JobFacts). number_of_post_times (table_of g.Q.Query.facts f) f) c.parts.invariant.run in
    let hosts = written_back without_room i.hosts.items c.deref_mut.result.now c.make_room_in_hosts.new.hosts i.hosts.len c.deref_mut.ensures.len c.make_room_in_hosts.ensures.same in
    let movers = written_back roomless i.movers.items c.deref_mut-2.result.now c.make_room_in_movers.new.movers i.movers.len c.deref_mut-2.ensures.len c.make_room_in_movers.ensures.same in
    rw (hosts, movers)
    (on_ok c.make_room_in_movers.result c.make_room_in_movers.ensures.room
    (λ roomy. record { names = ok.log.0; changes = rw (← times) ok.log.1; notes = ok.owners; rows = ok.rows; hosts = c.in_ok-make_room_in_hosts.ensures.room; movers = roomy; empty = lists.empty; lists = (rw (← times) lists.room.0, rw (← times) lists.room.1) }))
