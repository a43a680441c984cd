use Rattle.std.proofs.Common.{◌≡◌, ◌∙◌, ◌+◌, None, ap, refl}
use Rattle.std.proofs.lemmas.Bool.{false≢true}
use Rattle.mp_names.specs.declared.kinds.Kind.TheVariants.{Apply}
use Rattle.mp_names.specs.declared.names.Name.TheVariants.{Group}
use Rattle.mp_rows.specs.WorkerLog.{WorkerLog}
use Rattle.mp_worker_invariant.proofs.Items.{again_there}
use Rattle.mp_worker_invariant.proofs.Standing.{host_at, informed, knows, router_at}
use Rattle.mp_worker_parts.specs.Contents.{worker_of}
use Rattle.mp_worker_parts.proofs.Keeping.{its_shape, kept_by, makes}
use Rattle.mp_worker_apply.proofs.Fitting.{group_fits, ready_there}
use Rattle.mp_worker_apply.proofs.applying.apply_ready.Goals as goal
use Rattle.mp_worker_apply.proofs.applying.apply_ready.Goals.{then-stage-stages+in_ok-hold_records, else-stage-stages+in_ok-hold_rows}

pub apply_group-requires-clause-ready : goal.apply_group-requires-clause-ready
apply_group-requires-clause-ready g c κs within =
    let kept = c.parts.invariant in
    let i = c.parts.inside in
    let found = c.index_mut-host.ensures.value in
    let at = host_at kept.parts c.args.stage c.requires.stage c.index_mut-host.result.now found in
    (i.seen, i.owners, ready_there kept c.parts.view_is c.requires.stage found c.requires.ready, (i.log.log, informed kept.sound kept.parts c.args.stage _ at, knows kept.sound kept.parts c.args.stage c.requires.stage _ at))

pub invariant_of-parts : goal.invariant_of-parts
invariant_of-parts g c = rw (again_there c.parts.inside.hosts.items c.args.stage c.index_mut-host.result.now c.apply_group.new.host c.index_mut-host.ensures.value c.in_err-applied.ensures.unchanged) c.parts.invariant

pub push-requires : goal.push-requires
push-requires g c =
    let told = c.in_ok-applied.ensures.told _ _ c.parts.invariant c.index_mut-host.ensures.value (ready_there c.parts.invariant c.parts.view_is c.requires.stage c.index_mut-host.ensures.value c.requires.ready) in
    let to = rw (c.shape-stages.ensures.shape ∙ its_shape c.parts.invariant) at c.location_after-onward.ensures in
    record { changes = rw (c.as_slice.ensures.value, c.in_ok-push_changes.ensures.changes) (told.changes c.location_after-onward.result to c.number_onward-number.result c.number_onward-number.ensures.onward) }

pub number_onward-number-requires-clause-time : goal.number_onward-number-requires-clause-time
number_onward-number-requires-clause-time g c κs within = (c.in_ok-applied.ensures.told _ _ c.parts.invariant c.index_mut-host.ensures.value (ready_there c.parts.invariant c.parts.view_is c.requires.stage c.index_mut-host.ensures.value c.requires.ready)).in_time

pub push_changes-requires : goal.push_changes-requires
push_changes-requires g c =
    let fits = group_fits c.parts.invariant c.parts.view_is (c.in_ok-applied.ensures.told _ _ c.parts.invariant c.index_mut-host.ensures.value (ready_there c.parts.invariant c.parts.view_is c.requires.stage c.index_mut-host.ensures.value c.requires.ready)) (c.args.group.most, c.requires.room, rw (c.in_ok-applied.ensures.group.0, c.in_ok-applied.ensures.group.1) c.requires.enough) in
    record { empty = fits.empty; room = fits.list; few = c.number_onward-number.ensures.few }

pub invariant_of-parts-in_err-push : goal.invariant_of-parts-in_err-push
invariant_of-parts-in_err-push g c =
    let fits = group_fits c.parts.invariant c.parts.view_is (c.in_ok-applied.ensures.told _ _ c.parts.invariant c.index_mut-host.ensures.value (ready_there c.parts.invariant c.parts.view_is c.requires.stage c.index_mut-host.ensures.value c.requires.ready)) (c.args.group.most, c.requires.room, rw (c.in_ok-applied.ensures.group.0, c.in_ok-applied.ensures.group.1) c.requires.enough) in
    let few = fits.changes c.location_after-onward.result c.number_onward-number.result c.as_slice.result.now (c.as_slice.ensures.value ∙ c.in_ok-push_changes.ensures.changes) in
    absurd (false≢true (c.in_err-push.ensures.ready fits.names few))

pub hold_records-requires-clause-time : goal.hold_records-requires-clause-time
hold_records-requires-clause-time g c κs within = (c.in_ok-applied.ensures.told _ _ c.parts.invariant c.index_mut-host.ensures.value (ready_there c.parts.invariant c.parts.view_is c.requires.stage c.index_mut-host.ensures.value c.requires.ready)).in_time

pub hold_records-requires-clause-stage : goal.hold_records-requires-clause-stage
hold_records-requires-clause-stage g c κs within =
    let next = rw (c.shape-stages.ensures.shape ∙ its_shape c.parts.invariant) at c.if-stage-stages.true in
    (router_at c.parts.invariant.parts (c.args.stage + 1) next c.index_mut-router.result.now c.index_mut-router.ensures.value).0

pub hold_records-requires-clause-records : goal.hold_records-requires-clause-records
hold_records-requires-clause-records g c κs within =
    (c.in_ok-applied.ensures.told _ _ c.parts.invariant c.index_mut-host.ensures.value (ready_there c.parts.invariant c.parts.view_is c.requires.stage c.index_mut-host.ensures.value c.requires.ready)).records (rw (c.shape-stages.ensures.shape ∙ its_shape c.parts.invariant) at c.if-stage-stages.true)

pub hold_records-requires-clause-room : goal.hold_records-requires-clause-room
hold_records-requires-clause-room g c κs within =
    let told = c.in_ok-applied.ensures.told _ _ c.parts.invariant c.index_mut-host.ensures.value (ready_there c.parts.invariant c.parts.view_is c.requires.stage c.index_mut-host.ensures.value c.requires.ready) in
    let next = rw (c.shape-stages.ensures.shape ∙ its_shape c.parts.invariant) at c.if-stage-stages.true in
    (group_fits c.parts.invariant c.parts.view_is told (c.args.group.most, c.requires.room, rw (c.in_ok-applied.ensures.group.0, c.in_ok-applied.ensures.group.1) c.requires.enough)).router next c.index_mut-router.result.now c.index_mut-router.ensures.value

pub invariant_of-parts-in-Continue-branch-4 : goal.invariant_of-parts-in-Continue-branch-4
invariant_of-parts-in-Continue-branch-4 g c =
    let told = c.in_ok-applied.ensures.told _ _ c.parts.invariant c.index_mut-host.ensures.value (ready_there c.parts.invariant c.parts.view_is c.requires.stage c.index_mut-host.ensures.value c.requires.ready) in
    let next = rw (c.shape-stages.ensures.shape ∙ its_shape c.parts.invariant) at c.if-stage-stages.true in
    kept_by c.parts.invariant c.push.new.self (ap (λ (l : WorkerLog). l.worker) c.in_ok-push.ensures.pushed) (ap (λ (l : WorkerLog). l.log) c.in_ok-push.ensures.pushed)
    (told.next next c.index_mut-router.result.now c.hold_records.new.router c.index_mut-router.ensures.value c.in_ok-hold_records.ensures.stage c.in_ok-hold_records.ensures.held)

pub hold_rows-requires-clause-rows : goal.hold_rows-requires-clause-rows
hold_rows-requires-clause-rows g c κs within =
    (c.in_ok-applied.ensures.told _ _ c.parts.invariant c.index_mut-host.ensures.value (ready_there c.parts.invariant c.parts.view_is c.requires.stage c.index_mut-host.ensures.value c.requires.ready)).rows (rw (c.shape-stages.ensures.shape ∙ its_shape c.parts.invariant) at c.if-stage-stages.false)

pub hold_rows-requires-clause-room : goal.hold_rows-requires-clause-room
hold_rows-requires-clause-room g c κs within =
    let told = c.in_ok-applied.ensures.told _ _ c.parts.invariant c.index_mut-host.ensures.value (ready_there c.parts.invariant c.parts.view_is c.requires.stage c.index_mut-host.ensures.value c.requires.ready) in
    (group_fits c.parts.invariant c.parts.view_is told (c.args.group.most, c.requires.room, rw (c.in_ok-applied.ensures.group.0, c.in_ok-applied.ensures.group.1) c.requires.enough)).unsent (rw (c.shape-stages.ensures.shape ∙ its_shape c.parts.invariant) at c.if-stage-stages.false)

pub invariant_of-parts-in-Continue-branch-5 : goal.invariant_of-parts-in-Continue-branch-5
invariant_of-parts-in-Continue-branch-5 g c =
    let ends = rw (c.shape-stages.ensures.shape ∙ its_shape c.parts.invariant) at c.if-stage-stages.false in
    kept_by c.parts.invariant c.push.new.self (ap (λ (l : WorkerLog). l.worker) c.in_ok-push.ensures.pushed) (ap (λ (l : WorkerLog). l.log) c.in_ok-push.ensures.pushed)
    ((c.in_ok-applied.ensures.told _ _ c.parts.invariant c.index_mut-host.ensures.value (ready_there c.parts.invariant c.parts.view_is c.requires.stage c.index_mut-host.ensures.value c.requires.ready)).last ends c.hold_rows.new.unsent.rows c.in_ok-hold_rows.ensures.held)

pub returns : goal.returns
returns g c =
    let told = c.in_ok-applied.ensures.told _ _ c.parts.invariant c.index_mut-host.ensures.value (ready_there c.parts.invariant c.parts.view_is c.requires.stage c.index_mut-host.ensures.value c.requires.ready) in
    let i = c.parts.inside in
    let applied = c.in_ok-applied.applied in
    let pushed = ap (λ (l : WorkerLog). record { number = l.worker; log = c.push.new.self.log; posted = i.posted.value.log; seen = i.seen; steps = None }) c.in_ok-push.ensures.pushed in
    let parts_are : c.if-stage-stages.parts.worker ≡ record { number = i.log.worker; log = c.push.new.self.log; posted = i.posted.value.log; seen = i.seen; steps = None } =
    elim c.if-stage-stages.branch [ then-stage-stages+in_ok-hold_records w ↦ ap worker_of w.parts-is ∙ pushed | else-stage-stages+in_ok-hold_rows w ↦ ap worker_of w.parts-is ∙ pushed ] in
    rw (← c.parts.view_is, parts_are) (makes c.parts.invariant (Apply c.args.stage) (Group c.args.stage applied.time applied.key) c.requires.stage told.can refl c.push.new.self.log (ap (λ (l : WorkerLog). l.log) c.in_ok-push.ensures.pushed))

pub invariant_of-parts-in_err-push_changes : goal.invariant_of-parts-in_err-push_changes
invariant_of-parts-in_err-push_changes g c = absurd (false≢true c.in_err-push_changes.ensures.done)
