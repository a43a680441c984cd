use Rattle.std.proofs.Common.{◌≡◌, ◌<◌, ◌∙◌, ◌∷◌, ℕ, [], ap, get_or, refl, Some, subst, sym}
use Rattle.std.proofs.lemmas.Option.{slice_get-get_or}
use Rattle.mp_names.specs.declared.controls.Move.{Move}
use Rattle.mp_names.specs.declared.kinds.Kind.TheVariants.{Extract}
use Rattle.mp_names.specs.declared.names.Name.TheVariants.{Packet}
use Rattle.mp_names.specs.Logs.{Log}
use Rattle.mp_handoff.specs.MoversState.{MoversState}
use Rattle.mp_worker_parts.specs.Below.{GivesUp}
use Rattle.mp_host_laws.specs.declared.held.Held.{Held}
use Rattle.mp_host_laws.specs.Hosted.{Hosted}
use Rattle.mp_host_laws.specs.Moving.{IsTakenOut}
use Rattle.mp_model.specs.Facts.{JobFacts, QueryFacts}
use Rattle.mp_model.specs.Tables.{table_of}
use Rattle.mp_msg.specs.Contents.{IsPacketOf}
use Rattle.mp_msg.specs.States.{BinContent, IsStateBefore}
use Rattle.mp_outline.specs.JobOutline.{outline_of}
use Rattle.mp_worker_parts.specs.Below.{Parts}
use Rattle.mp_worker_parts.specs.Below.{host_at, movers_at}
use Rattle.mp_worker_sends.specs.Leaving.{IsDueNow, IsLeaving}
use Rattle.mp_worker_sends.proofs.Extracting.{can_extract, host_back, leaving, one_packet, packet_kept, packet_stays_legal, packet_still_kept, some_leaves}
use Rattle.mp_worker_sends.proofs.LeavingPackets.{bin_back, state_back, taken_of_bin}
use Rattle.mp_worker_refinement.proofs.Pushed.{single_may}
use Rattle.mp_worker_parts.specs.Kept.{IsKept}
use Rattle.mp_worker_parts.proofs.Keeping.{can_do, kept_by, makes_all}
use Rattle.mp_worker_sends.proofs.Kept.{holds_a_packet}
use Rattle.mp_worker_sends.proofs.bins.send_bin.Goals as goal

leaves : {Cell : Type 0} {q : QueryFacts Cell} {job its : JobFacts} {p : Parts Cell} → IsKept q job its p → {j : ℕ} → j < job.shape.stages → {mv : Move}
    → IsDueNow (outline_of q job) p.number p.log p.seen j mv → {h out : Hosted Cell} {one : Held Cell} → h ≡ get_or p.hosts j h → IsTakenOut mv.bin mv.time one h out
    → ((l : Log) → GivesUp q job l mv.bin mv.time one h out) → IsLeaving q job p j mv one out
leaves kept {j} below {mv} due {h} {out} {one} at taken gives = leaving kept.sound kept.parts j below mv due h (host_at kept.parts j below h at) one out taken gives

-- a bin whose packet came back is what it was
comes_back : {Cell : Type 0} {q : QueryFacts Cell} {job : JobFacts} {i j b t u : ℕ} {r s : BinContent Cell} (one : Held Cell) → r ≡ s → IsPacketOf q job i b t s
    → IsPacketOf q job j one.bin u one.state → Packet i b t ∷ [] ≡ Packet j one.bin u ∷ [] → record { bin = one.bin; since = one.since; state = r } ≡ one
comes_back {q = q} {job} {i} {j} {b} {t} {u} {r} {s} one is comes was named = bin_back one r (is ∙ state_back q job i j b one.bin t u s one.state comes was named)

pub unreachable-requires : goal.unreachable-requires
unreachable-requires g c =
    let kept = c.parts.invariant in
    let h = c.index_mut-host.result.now in
    let at = host_at kept.parts c.args.stage c.requires.stage h c.index_mut-host.ensures.value in
    some_leaves kept.sound kept.parts c.args.stage c.requires.stage c.args.moved (rw (← c.parts.view_is) at c.requires.due) h at c.in_default.ensures.here

pub packet-packet-requires-after_bounds : goal.packet-packet-requires-after_bounds
packet-packet-requires-after_bounds g c κs within =
    let told = leaves c.parts.invariant c.requires.stage (rw (← c.parts.view_is) at c.requires.due) c.index_mut-host.ensures.value c.in-Some.ensures.taken c.in-Some.ensures.held in
    rw c.with.ensures told.content

pub send-requires-clause-may : goal.send-requires-clause-may
send-requires-clause-may g c κs within =
    let kept = c.parts.invariant in
    let due = rw (← c.parts.view_is) at c.requires.due in
    let legal = packet_stays_legal kept.sound kept.parts c.args.stage c.requires.stage c.args.moved due in
    rw (c.packet-packet.ensures, taken_of_bin _ _ _ _ _ c.in-Some.ensures.taken) (single_may _ kept.sound _ _ _ due.least.0.0.1 legal)

pub send-requires-clause-to : goal.send-requires-clause-to
send-requires-clause-to g c κs within =
    let due = rw (← c.parts.view_is) at c.requires.due in
    rw (c.packet-packet.ensures, taken_of_bin _ _ _ _ _ c.in-Some.ensures.taken) due.to

pub send-requires-clause-changes : goal.send-requires-clause-changes
send-requires-clause-changes g c κs within =
    let kept = c.parts.invariant in
    let one = c.in-Some in
    let told = leaves kept c.requires.stage (rw (← c.parts.view_is) at c.requires.due) c.index_mut-host.ensures.value one.ensures.taken one.ensures.held in
    let h = c.index_mut-host.result.now in
    let below = subst (λ (n : ℕ). c.args.stage < n) (sym kept.parts.all_hosts) c.requires.stage in
    let there = slice_get-get_or c.parts.inside.hosts.items c.args.stage h below ∙ ap (λ (x : Hosted g.row.Q-Cell.Denot). Some x) (sym c.index_mut-host.ensures.value) in
    rw (c.packet-packet.ensures, told.bin, c.as_slice-changes.ensures.value)
    ((rw (← c.parts.view_is) at c.requires.changes) h there one.field-0 c.take_bin.new.self one.ensures.taken told.state)

pub send-requires-clause-at_post : goal.send-requires-clause-at_post
send-requires-clause-at_post g c κs within = rw (← c.parts.view_is) at c.requires.at_post

pub sent-requires-clause-room : goal.sent-requires-clause-room
sent-requires-clause-room g c κs within =
    subst (λ (x : MoversState). 0 < x.room_for_sent) (sym c.index_mut-movers.ensures.value) ((rw (← c.parts.view_is) at c.requires.room).movers c.index_mut-movers.result.now)

pub sent-requires-clause-keys : goal.sent-requires-clause-keys
sent-requires-clause-keys g c κs within =
    let kept = c.parts.invariant in
    let told = leaves kept c.requires.stage (rw (← c.parts.view_is) at c.requires.due) c.index_mut-host.ensures.value c.in-Some.ensures.taken c.in-Some.ensures.held in
    let s = c.in-Some.field-0.state in
    let movers = movers_at kept.parts c.args.stage c.requires.stage c.index_mut-movers.result.now c.index_mut-movers.ensures.value in
    (s, subst (λ k. IsStateBefore (table_of g.Q.Query.facts g.J.Naming.job) g.J.Naming.job k c.args.moved.bin c.args.moved.time s) (sym movers.0) told.state, c.count_of_keys-keys.ensures)

pub unreachable-requires-in_default-into_body : goal.unreachable-requires-in_default-into_body
unreachable-requires-in_default-into_body g c =
    holds_a_packet c.into_body.result _ _ _ (c.into_body.ensures.names ∙ c.in-Err.ensures.back ∙ c.packet-packet.ensures) c.in_default-into_body.not-Packet

pub invariant_of-parts : goal.invariant_of-parts
invariant_of-parts g c =
    let kept = c.parts.invariant in
    let due = rw (← c.parts.view_is) at c.requires.due in
    let told = leaves kept c.requires.stage due c.index_mut-host.ensures.value c.in-Some.ensures.taken c.in-Some.ensures.held in
    let m = c.index_mut-movers.result.now in
    let movers = movers_at kept.parts c.args.stage c.requires.stage m c.index_mut-movers.ensures.value in
    let same = c.sent.ensures.same in
    kept_by kept c.send.new.log c.in-Ok.ensures.worker (rw (c.packet-packet.ensures, told.bin) at c.in-Ok.ensures.sent)
    (packet_kept kept.sound kept.parts c.args.stage c.requires.stage c.args.moved due m c.sent.new.self movers (ap (λ (n : MoversState). n.stage) same) (ap (λ (n : MoversState). n.worker) same) c.sent.ensures.held c.take_bin.new.self told.without)

pub returns-in-Ok : goal.returns-in-Ok
returns-in-Ok g c =
    let kept = c.parts.invariant in
    let due = rw (← c.parts.view_is) at c.requires.due in
    let bin = taken_of_bin _ _ _ _ _ c.in-Some.ensures.taken in
    let e = c.in-Ok.ensures in
    let room = subst (g.P.Post.had_room c.args.post.now c.parts.inside.log.worker) due.to e.room in
    let x = Packet c.args.stage c.args.moved.bin c.args.moved.time in
    let can = can_extract kept.sound kept.parts c.args.stage c.requires.stage c.args.moved due in
    let makes = makes_all kept (Extract c.args.stage) x c.requires.stage can (x ∷ []) refl c.send.new.log.log (rw (c.packet-packet.ensures, bin) at e.sent) in
    rw (← c.parts.view_is, e.worker) (record { steps = record { names = x ∷ []; tells = rw (c.packet-packet.ensures, bin) at e.names; makes = makes; allows = room }; mail = e.mail })

pub put_back-requires-clause-fits : goal.put_back-requires-clause-fits
put_back-requires-clause-fits g c κs within =
    let one = c.in-Some in
    let told = leaves c.parts.invariant c.requires.stage (rw (← c.parts.view_is) at c.requires.due) c.index_mut-host.ensures.value one.ensures.taken one.ensures.held in
    let named = c.in-Packet.ensures.names ∙ c.in-Err.ensures.back ∙ c.packet-packet.ensures in
    rw (one.ensures.taken.stage, comes_back one.field-0 c.into_state-state.ensures c.in-Packet.ensures.content told.content named) one.ensures.fits

pub invariant_of-parts-2 : goal.invariant_of-parts-2
invariant_of-parts-2 g c =
    let kept = c.parts.invariant in
    let q = table_of g.Q.Query.facts g.J.Naming.job in
    let one = c.in-Some in
    let h = c.index_mut-host.result.now in
    let at = host_at kept.parts c.args.stage c.requires.stage h c.index_mut-host.ensures.value in
    let told = leaves kept c.requires.stage (rw (← c.parts.view_is) at c.requires.due) c.index_mut-host.ensures.value one.ensures.taken one.ensures.held in
    let named = c.in-Packet.ensures.names ∙ c.in-Err.ensures.back ∙ c.packet-packet.ensures in
    let same = comes_back one.field-0 c.into_state-state.ensures c.in-Packet.ensures.content told.content named in
    let m = c.index_mut-movers.result.now in
    let movers = movers_at kept.parts c.args.stage c.requires.stage m c.index_mut-movers.ensures.value in
    let i = c.parts.inside.log in
    let again = host_back q g.J.Naming.job i.worker i.log c.args.stage c.args.moved.bin c.args.moved.time one.field-0 _ h c.take_bin.new.self c.put_back.new.self at one.ensures.taken same c.put_back.ensures.put c.put_back.ensures.held in
    kept_by kept c.send.new.log c.in-Err.ensures.worker c.in-Err.ensures.unchanged (packet_still_kept kept.sound kept.parts c.args.stage c.requires.stage m movers c.put_back.new.self again)

pub returns : goal.returns
returns g c =
    let kept = c.parts.invariant in
    let due = rw (← c.parts.view_is) at c.requires.due in
    let e = c.in-Err.ensures in
    let one = one_packet kept.sound kept.parts c.args.stage c.requires.stage c.args.moved due in
    let full = subst (g.P.Post.was_full c.args.post.now c.parts.inside.log.worker) due.to e.full in
    rw (← c.parts.view_is)
    (record { steps = ((λ x can. rw (← one x (can_do kept (Extract c.args.stage) x can)) full), rw (e.worker, e.unchanged) refl); mail = e.mail })

pub send-requires-clause-outline : goal.send-requires-clause-outline
send-requires-clause-outline g c κs within = c.parts.invariant.sound

pub send-requires-clause-worker : goal.send-requires-clause-worker
send-requires-clause-worker g c κs within = c.parts.invariant.parts.worker
