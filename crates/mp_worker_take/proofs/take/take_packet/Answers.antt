use Rattle.std.proofs.Common.{◌∙◌, ap, arith, length, refl}
use Rattle.mp_host_laws.proofs.WakeTimes.{few_times}
use Rattle.mp_worker_take.proofs.Coming.{taken_length}
use Rattle.mp_worker_parts.proofs.Keeping.{not_refused}
use Rattle.mp_worker_take.proofs.Rooms.{some_names}
use Rattle.mp_worker_take.proofs.Taking.{packet_comes, packet_stage}
use Rattle.mp_worker_take.proofs.take.take_packet.Goals as goal
use Rattle.mp_model.specs.Tables.{table_of}

pub index_mut-host-requires : goal.index_mut-host-requires
index_mut-host-requires g c = omega (arith, packet_stage c.parts.invariant c.requires.state, c.parts.inside.hosts.ok.0)

pub coming-requires-clause-empty : goal.coming-requires-clause-empty
coming-requires-clause-empty g c κs within = (rw (← c.parts.view_is) at c.requires.room).empty.0

pub coming-requires-clause-room : goal.coming-requires-clause-room
coming-requires-clause-room g c κs within =
    let few = few_times (table_of g.Q.Query.facts g.J.Naming.job) c.parts.invariant.hands_on.nothing g.J.Naming.job c.parts.invariant.legal c.args.stage c.args.bin c.args.time c.args.state c.requires.state.1 in
    omega (arith, few, (rw (← c.parts.view_is) at c.requires.room).lists.0)

pub list_coming-requires : goal.list_coming-requires
list_coming-requires g c =
    let comes = packet_comes c.parts.invariant c.parts.view_is c.requires.state c.requires.new c.requires.room c.index_mut-host.ensures.value in
    let room = rw (← c.parts.view_is) at c.requires.room in
    record {
      empty = room.empty.1;
      room = omega (arith, comes.few c.coming.new.numbers.items c.coming.ensures.told, ap length c.as_slice.ensures.value, room.lists.1);
      few = rw c.as_slice.ensures.value c.coming.ensures.few;
    }

pub push-requires : goal.push-requires
push-requires g c =
    let comes = packet_comes c.parts.invariant c.parts.view_is c.requires.state c.requires.new c.requires.room c.index_mut-host.ensures.value in
    record { changes = rw (c.as_slice-2.ensures.value, c.list_coming.ensures.changes, c.as_slice.ensures.value) (comes.counted c.coming.new.numbers.items c.coming.ensures.denotes c.coming.ensures.told) }

pub unreachable-requires-in_default-push : goal.unreachable-requires-in_default-push
unreachable-requires-in_default-push g c =
    let comes = packet_comes c.parts.invariant c.parts.view_is c.requires.state c.requires.new c.requires.room c.index_mut-host.ensures.value in
    let room = rw (← c.parts.view_is) at c.requires.room in
    let few = comes.few c.coming.new.numbers.items c.coming.ensures.told in
    let listed = ap length (c.as_slice-2.ensures.value ∙ c.list_coming.ensures.changes) in
    let many = taken_length c.args.stage c.args.time c.as_slice.result.now in
    not_refused c.push.result (c.push.ensures.ready (some_names room.names) (omega (arith, few, listed, many, ap length c.as_slice.ensures.value, room.changes))) c.in_default-push.not-Ok

pub install-requires-clause-room : goal.install-requires-clause-room
install-requires-clause-room g c κs within =
    (packet_comes c.parts.invariant c.parts.view_is c.requires.state c.requires.new c.requires.room c.index_mut-host.ensures.value).room

pub install-requires-clause-state : goal.install-requires-clause-state
install-requires-clause-state g c κs within =
    (packet_comes c.parts.invariant c.parts.view_is c.requires.state c.requires.new c.requires.room c.index_mut-host.ensures.value).state

pub invariant_of-parts : goal.invariant_of-parts
invariant_of-parts g c =
    let comes = packet_comes c.parts.invariant c.parts.view_is c.requires.state c.requires.new c.requires.room c.index_mut-host.ensures.value in
    rw c.in-Ok-push.ensures.pushed (comes.taken c.install.new.self c.install.ensures.put c.install.ensures.held)

pub returns : goal.returns
returns g c = rw (← c.parts.view_is, c.in-Ok-push.ensures.pushed) refl
