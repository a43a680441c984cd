use Rattle.std.proofs.Common.{◌∙◌, ap, sym}
use Rattle.mp_model.specs.Facts.{JobFacts}
use Rattle.mp_job.specs.Records.{record_at, share_of}
use Rattle.mp_names.specs.declared.kinds.Kind.TheVariants.{Ingest}
use Rattle.mp_worker_steps.proofs.Ingested.{has_record, next_record, none_to_ingest}
use Rattle.mp_worker_parts.proofs.Keeping.{can_do}
use Rattle.mp_worker_steps.proofs.ingesting.next_record.Goals as goal
use Rattle.mp_model.specs.Tables.{table_of}

pub returns-in_default-clause-none : goal.returns-in_default-clause-none
returns-in_default-clause-none g c =
    let share = rw c.worker.ensures at (c.share.ensures ∙ ap (λ (f : JobFacts). share_of (table_of g.Q.Query.facts f) f.events f.shape.workers c.worker.result) c.parts.invariant.run) in
    let past = rw c.ingested-next.ensures at c.in_default.ensures.lookup.3 in
    rw (← c.parts.view_is) (λ x can. none_to_ingest c.parts.invariant.sound c.parts.invariant.parts _ share past x (can_do c.parts.invariant Ingest x can))

pub rec_at-requires-after_bounds : goal.rec_at-requires-after_bounds
rec_at-requires-after_bounds g c κs within =
    has_record (table_of g.Q.Query.facts c.parts.inside.job.now) c.parts.inside.job.now c.worker.result _ _ _ c.share.ensures c.in-Some.ensures.lookup.3.0 (c.in-Some.ensures.lookup.3.1 _)

pub returns-clause-next : goal.returns-clause-next
returns-clause-next g c =
    let share = rw c.worker.ensures at (c.share.ensures ∙ ap (λ (f : JobFacts). share_of (table_of g.Q.Query.facts f) f.events f.shape.workers c.worker.result) c.parts.invariant.run) in
    let found = rw c.ingested-next.ensures at c.in-Some.ensures.lookup.3 in
    rw (← c.parts.view_is) (next_record c.parts.invariant.sound c.parts.invariant.parts _ share _ _ found.0 (found.1 _) (sym (ap (λ (f : JobFacts). record_at (table_of g.Q.Query.facts f) f.events c.in-Some.index.now) c.parts.invariant.run) ∙ c.in_ok-rec_at.ensures))
