use Rattle.std.proofs.Common.{◌≡◌, ◌==◌, ◌≤◌, ◌∙◌, arith, cond, refl, subst, sym}
use Rattle.std.proofs.lemmas.Bool.{cond-false, cond-true, eq-eqb, eqb-true, false_from_ne_true}
use Rattle.mp_names.specs.Limits.{most_in_bundle}
use Rattle.mp_host_laws.specs.Hosted.{Hosted}
use Rattle.mp_worker_invariant.proofs.Items.{again_there}
use Rattle.mp_worker_invariant.proofs.Standing.{host_at}
use Rattle.mp_worker_take.proofs.Received.{few_records, records_changes, records_held, records_taken_here, stage_below}
use Rattle.mp_worker_parts.proofs.Keeping.{kept_as, not_refused}
use Rattle.mp_worker_take.proofs.take.take_records.Goals as goal
use Rattle.mp_worker_take.proofs.take.take_records.Goals.{then-groups-eq0, else-groups-eq0}

pub push_records-requires-clause-changes : goal.push_records-requires-clause-changes
push_records-requires-clause-changes g c =
    let b = c.args.bundle in
    let value = rw c.stage-stage.ensures at c.index_mut-host.ensures.value in
    let at = host_at c.parts.invariant.parts b.stage (stage_below _ _ b c.requires.bundle) c.index_mut-host.result.now value in
    let first = rw c.recs-recs.ensures at c.index-recs-0.is in
    let groups = c.new_groups-groups.result in
    let count : c.if-groups-eq0.count ≡ cond (groups == 0) 1 2 =
    elim c.if-groups-eq0.branch [
      | then-groups-eq0 w ↦ w.count-is ∙ sym (cond-true (groups == 0) 1 2 (eq-eqb groups 0 (omega (arith, w.if-groups-eq0.true))))
      | else-groups-eq0 w ↦ w.count-is ∙ sym (cond-false (groups == 0) 1 2 (false_from_ne_true (groups == 0) (λ e. let f = eqb-true groups 0 e in omega (arith, f, w.if-groups-eq0.false))))
    ] in
    rw (c.many_less.ensures, c.many_more.ensures, c.recs-recs.ensures, c.stage-stage.ensures, ← first)
    (records_changes _ _ b c.requires.bundle _ _ (rw (← c.parts.view_is) at c.requires.new) c.parts.invariant.parts.legal _ at
    c.parts.invariant.sound _ first groups c.new_groups-groups.ensures.told c.if-groups-eq0.count count)

pub receive-requires-clause-stage : goal.receive-requires-clause-stage
receive-requires-clause-stage g c κs within =
    let value = rw c.stage-stage.ensures at c.index_mut-host.ensures.value in
    sym (host_at c.parts.invariant.parts c.args.bundle.stage (stage_below _ _ c.args.bundle c.requires.bundle) c.index_mut-host.result.now value).0

pub receive-requires-clause-content : goal.receive-requires-clause-content
receive-requires-clause-content g c κs within =
    let value = rw c.stage-stage.ensures at c.index_mut-host.ensures.value in
    rw (host_at c.parts.invariant.parts c.args.bundle.stage (stage_below _ _ c.args.bundle c.requires.bundle) c.index_mut-host.result.now value).0 c.requires.bundle.records

pub unreachable-requires-in_default-receive : goal.unreachable-requires-in_default-receive
unreachable-requires-in_default-receive g c =
    let b = c.args.bundle in
    let value = rw c.stage-stage.ensures at c.index_mut-host.ensures.value in
    let inside = rw (← c.parts.invariant.parts.all_hosts) at (stage_below _ _ b c.requires.bundle) in
    let hosts = (rw (← c.parts.view_is) at c.requires.room).hosts in
    let roomy = subst (λ (x : Hosted g.row.Q-Cell.Denot). most_in_bundle ≤ x.room) (sym value) (hosts b.stage c.index_mut-host.result.now inside).0 in
    not_refused c.receive.result (c.receive.ensures.never_refused_with_room (omega (arith, roomy, few_records _ _ b c.requires.bundle))) c.in_default-receive.not-Ok

pub invariant_of-parts : goal.invariant_of-parts
invariant_of-parts g c =
    let kept = c.parts.invariant in
    let b = c.args.bundle in
    let at = host_at kept.parts b.stage (stage_below _ _ b c.requires.bundle) c.index_mut-host.result.now (rw c.stage-stage.ensures at c.index_mut-host.ensures.value) in
    let new = rw (← c.parts.view_is) at c.requires.new in
    let held = records_held _ _ b c.requires.bundle _ _ new kept.parts.legal _ at c.receive.new.self c.receive.ensures.stage c.receive.ensures.worker c.in-Ok-receive.ensures.held in
    let same = again_there c.parts.inside.routers.items b.stage c.index_mut.result.now c.keep_list.new.self (rw c.stage-stage.ensures at c.index_mut.ensures.value) c.keep_list.ensures in
    rw (c.in-Ok.ensures.pushed, c.recs-recs.ensures, c.stage-stage.ensures, same) (kept_as kept (records_taken_here kept.sound kept.parts b c.requires.bundle new c.receive.new.self held))

pub index_mut-host-requires : goal.index_mut-host-requires
index_mut-host-requires g c =
    omega (arith, stage_below _ _ c.args.bundle c.requires.bundle, c.stage-stage.ensures, c.parts.invariant.parts.all_hosts, c.parts.inside.hosts.ok.0)

pub index_mut-requires : goal.index_mut-requires
index_mut-requires g c =
    omega (arith, stage_below _ _ c.args.bundle c.requires.bundle, c.stage-stage.ensures, c.parts.invariant.parts.all_routers, c.parts.inside.routers.ok.0)

pub returns : goal.returns
returns g c = rw (← c.parts.view_is, c.in-Ok.ensures.pushed, c.recs-recs.ensures, c.stage-stage.ensures) refl
