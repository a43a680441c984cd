use Rattle.std.proofs.Common.{◌≡◌, ◌<◌, ◌∙◌, ℕ, ap, arith, length, set, subst, sym}
use Rattle.std.proofs.lemmas.List.{get_or-set_same, length-set}
use Rattle.mp_rows_laws.specs.Changes.{packet_sent_at}
use Rattle.mp_handoff.specs.MoversState.{MoversState}
use Rattle.mp_host_laws.specs.Hosted.{Hosted}
use Rattle.mp_worker_parts.specs.Below.{AreMoversAt}
use Rattle.mp_worker_parts.specs.Below.{again_there, put_at}
use Rattle.mp_worker_parts.specs.Below.{other_movers}
use Rattle.mp_worker_parts.specs.Below.{host_at, movers_at}
use Rattle.mp_worker_sends.specs.Leaving.{AreChangesOfLeaving}
use Rattle.mp_worker_parts.proofs.Keeping.{same_host_there}
use Rattle.mp_worker_sends.proofs.Extracting.{changes_of_packet, with_room}
use Rattle.mp_worker_parts.proofs.Keeping.{kept_as}
use Rattle.mp_worker_sends.proofs.bins.make_room_to_extract.Goals as goal
use Rattle.mp_model.specs.Tables.{table_of}

pub invariant_of-parts-2 : goal.invariant_of-parts-2
invariant_of-parts-2 g c =
    let job = g.J.Naming.job in
    let q = table_of g.Q.Query.facts job in
    let kept = c.parts.invariant in
    let i = c.parts.inside in
    let j = c.args.stage in
    let made = c.make_room_for_sent in
    let m = made.new.self in
    let roomy = with_room q job i.log.worker i.log.log j _ m (movers_at kept.parts j c.requires.stage c.index_mut.result.now c.index_mut.ensures.value) made.ensures.same made.ensures.held in
    rw c.in_ok-make_room.ensures.made
    (kept_as kept (other_movers kept.parts (set i.movers.items j m) (length-set i.movers.items j m) (put_at (AreMoversAt q job i.log.worker i.log.log) i.movers.items j m roomy kept.parts.movers)))

pub returns-clause-room : goal.returns-clause-room
returns-clause-room g c =
    let below = subst (λ (n : ℕ). c.args.stage < n) (sym c.parts.invariant.parts.all_movers) c.requires.stage in
    let listed = ap length c.in_ok-changes.ensures in
    rw c.in_ok-make_room.ensures.made
    (record {
      names = omega arith;
      changes = omega arith;
      movers = λ d. subst (λ (m : MoversState). 0 < m.room_for_sent) (sym (get_or-set_same _ _ c.make_room_for_sent.new.self d below)) c.in_ok-make_room_for_sent.ensures.room;
    })

pub returns-clause-changes : goal.returns-clause-changes
returns-clause-changes g c =
    let job = g.J.Naming.job in
    let kept = c.parts.invariant in
    let i = c.parts.inside in
    let j = c.args.stage in
    let h = c.index-host.result.now in
    let below = subst (λ (n : ℕ). j < n) (sym kept.parts.all_hosts) c.requires.stage in
    let ns = c.in_ok-numbers in
    let changes = c.in_ok-changes.changes.items in
    let same : changes ≡ packet_sent_at j c.args.moved.time ns.numbers.items = c.in_ok-changes.ensures ∙ ap (packet_sent_at j c.args.moved.time) c.as_slice.ensures.value in
    let told = changes_of_packet kept.sound kept.parts j c.requires.stage c.args.moved (rw (← c.parts.view_is) at c.requires.due) h (host_at kept.parts j c.requires.stage h c.index-host.ensures)
    ns.ensures.denotes changes (λ one out taken. (ns.numbers.items, ns.ensures.told one out taken, same)) in
    rw c.in_ok-make_room.ensures.made
    (λ x there. subst (λ (y : Hosted g.row.Q-Cell.Denot). AreChangesOfLeaving (table_of g.Q.Query.facts job) job i.log.worker i.log.log j c.args.moved y changes) (sym (same_host_there i.hosts.items j h x below c.index-host.ensures there)) told)

pub invariant_of-parts : goal.invariant_of-parts
invariant_of-parts g c = rw c.in_err-make_room.ensures.unchanged c.parts.invariant

pub invariant_of-parts-in_err-make_room_for_sent : goal.invariant_of-parts-in_err-make_room_for_sent
invariant_of-parts-in_err-make_room_for_sent g c =
    let made = c.make_room_for_sent in
    let same = again_there c.parts.inside.movers.items c.args.stage c.index_mut.result.now made.new.self c.index_mut.ensures.value c.in_err-make_room_for_sent.ensures.unchanged in
    rw (c.in_ok-make_room.ensures.made, same) c.parts.invariant
