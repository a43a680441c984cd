use Rattle.std.proofs.Common.{Err, List, ℕ, ◌∙◌, ap, inr, refl, sym}
use Rattle.mp_outside.specs.Sink.{grown}
use Rattle.mp_outline.specs.JobOutline.{outline_of}
use Rattle.mp_rows_laws.proofs.Settled.{written}
use Rattle.mp_worker_parts.proofs.Keeping.{kept_as, made_alone}
use Rattle.mp_worker_steps.proofs.Written.{can_write, err_is, part_written, rows_have_come, time_written, writes_refused}
use Rattle.mp_worker_steps.proofs.writing.write.Goals as goal
use Rattle.mp_model.specs.Tables.{table_of}

pub returns-in_err-time-clause-writes : goal.returns-in_err-time-clause-writes
returns-in_err-time-clause-writes g c =
    let job = g.J.Naming.job in
    let q = table_of g.Q.Query.facts job in
    let refused = c.in_err-time.ensures in
    let part = refused.part in
    let told = refused.part_of_answer _ part.0 c.parts.invariant.parts.unwritten part.2 in
    let some = part_written c.parts.invariant.parts (sym c.worker.ensures ∙ c.if-worker-ne0.false) part.0 part.2 told part.1 _ _ part.4 in
    rw (← c.parts.view_is)
    (writes_refused q job g.S.Sink.written g.S.Sink.faults _ c.args.sink.now c.write_due.new.sink (inr some) c.in_err-time.field-0.0 _ c.from_residual-in_err-time.ensures.1 (λ e. refused.failed (ap Err e)) (λ e. refused.no_fault (λ f. e (err_is _ _ f))))

pub push-requires : goal.push-requires
push-requires g c =
    record { changes = rw c.in_ok-make_room.ensures.made (written (outline_of (table_of g.Q.Query.facts g.J.Naming.job) g.J.Naming.job) c.parts.inside.log.worker c.parts.inside.log.log c.in-Time.time) }

pub invariant_of-parts-in-Time : goal.invariant_of-parts-in-Time
invariant_of-parts-in-Time g c =
    let kept = c.parts.invariant in
    let first = sym c.worker.ensures ∙ c.if-worker-ne0.false in
    let due = rw c.in-Time.is at c.in_ok-time.ensures.due in
    let next = rw c.in-Time.is at c.in_ok-time.ensures.next in
    rw (c.in_ok-push-in-Time.ensures.pushed, c.in_ok-make_room.ensures.made) (kept_as kept (time_written kept.parts first _ due kept.sound _ (next _ kept.parts.unwritten)))

pub returns-in_ok-push-in-Time-clause-writes : goal.returns-in_ok-push-in-Time-clause-writes
returns-in_ok-push-in-Time-clause-writes g c =
    let first = sym c.worker.ensures ∙ c.if-worker-ne0.false in
    let due = rw c.in-Time.is at c.in_ok-time.ensures.due in
    let lines = rw c.in-Time.is at c.in_ok-time.ensures.lines in
    let answer = rw c.in-Time.is at c.in_ok-time.ensures.answer in (
      lines ∙ ap (λ (bytes : List ℕ). grown (g.S.Sink.written c.args.sink.now) bytes) (answer _ c.parts.invariant.parts.unwritten (rows_have_come c.parts.invariant.parts first _ due)),
      c.in_ok-time.ensures.no_fault (λ e. cc),
    )

pub returns-in_ok-push-in-Time-clause-steps : goal.returns-in_ok-push-in-Time-clause-steps
returns-in_ok-push-in-Time-clause-steps g c =
    let due = rw c.in-Time.is at c.in_ok-time.ensures.due in
    let next = rw c.in-Time.is at c.in_ok-time.ensures.next in
    rw (← c.parts.view_is, c.in_ok-push-in-Time.ensures.pushed, c.in_ok-make_room.ensures.made)
    (made_alone refl (can_write c.parts.invariant.parts (sym c.worker.ensures ∙ c.if-worker-ne0.false) _ due (next _ c.parts.invariant.parts.unwritten).least) refl _ refl)

pub invariant_of-parts : goal.invariant_of-parts
invariant_of-parts g c = rw c.in_err-make_room.ensures.unchanged c.parts.invariant
