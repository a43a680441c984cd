use Rattle.std.proofs.Common.{◌∙◌, ap, arith, Some, refl, subst, sym}
use Rattle.std.proofs.lemmas.Option.{slice_get-get_or}
use Rattle.mp_names.specs.declared.kinds.Kind.TheVariants.{Ingest}
use Rattle.mp_msg.specs.Contents.{IsRecordOf}
use Rattle.mp_route.specs.Routed.{Routed}
use Rattle.mp_outline.specs.JobOutline.{name_of_record}
use Rattle.mp_worker_invariant.proofs.Standing.{router_at}
use Rattle.mp_worker_steps.proofs.Ingested.{can_ingest, ingested_counts, record_ingested, some_router}
use Rattle.mp_worker_parts.proofs.Keeping.{kept_as, makes, not_refused}
use Rattle.mp_worker_steps.proofs.ingesting.ingest_record.Goals as goal
use Rattle.mp_model.specs.Tables.{table_of}

pub push-requires : goal.push-requires
push-requires g c = record { changes = rw (c.one_less.ensures, c.one_more.ensures) (ingested_counts c.parts.invariant.sound c.parts.invariant.parts c.args.rec (rw (← c.parts.view_is) at c.requires.next)) }

pub unreachable-requires : goal.unreachable-requires
unreachable-requires g c =
    let room = rw (← c.parts.view_is) at c.requires.room in
    not_refused c.push.result (c.push.ensures.ready room.names room.changes) c.in_default.not-Ok

pub index_mut-requires : goal.index_mut-requires
index_mut-requires g c = omega (arith, some_router c.parts.invariant.sound c.parts.invariant.parts, c.parts.inside.routers.ok.0)

pub hold-requires-after_bounds : goal.hold-requires-after_bounds
hold-requires-after_bounds g c κs within =
    let at = router_at c.parts.invariant.parts 0 c.parts.invariant.sound.some_stage c.index_mut.result.now c.index_mut.ensures.value in
    subst (λ j. IsRecordOf (table_of g.Q.Query.facts g.J.Naming.job) g.J.Naming.job j c.args.rec) (sym at.0) (rw (← c.parts.view_is) at c.requires.next).1

pub unreachable-requires-in_default-hold : goal.unreachable-requires-in_default-hold
unreachable-requires-in_default-hold g c =
    let some = some_router c.parts.invariant.sound c.parts.invariant.parts in
    let there = slice_get-get_or c.parts.inside.routers.items 0 c.index_mut.result.now some ∙ ap (λ (x : Routed). Some x) (sym c.index_mut.ensures.value) in
    not_refused c.hold.result (c.hold.ensures.never_refused_with_room ((rw (← c.parts.view_is) at c.requires.room).router c.index_mut.result.now there)) c.in_default-hold.not-Ok

pub invariant_of-parts : goal.invariant_of-parts
invariant_of-parts g c =
    let kept = c.parts.invariant in
    let next = rw (← c.parts.view_is) at c.requires.next in
    rw c.in-Ok.ensures.pushed (kept_as kept (record_ingested kept.sound kept.parts c.args.rec next c.index_mut.result.now c.hold.new.self c.index_mut.ensures.value c.hold.ensures.stage c.in-Ok-hold.ensures.unsent))

pub returns : goal.returns
returns g c =
    let can = can_ingest c.parts.invariant.sound c.parts.invariant.parts c.args.rec (rw (← c.parts.view_is) at c.requires.next) in
    rw (← c.parts.view_is, c.in-Ok.ensures.pushed) (makes c.parts.invariant Ingest (name_of_record 0 c.args.rec) tt can refl _ refl)
