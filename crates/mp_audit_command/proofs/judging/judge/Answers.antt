-- The job has the query's own table, with the values that were read.
use Rattle.std.proofs.Common.{map}
use Rattle.mp_model.specs.Facts.{JobFacts, QueryFacts}
use Rattle.mp_command.proofs.Asked.{of_own}
use Rattle.mp_audit_command.specs.Judging.{Judges}
use Rattle.mp_audit_command.proofs.judging.judge.Goals as goal

pub returns-in-Ok : goal.returns-in-Ok
returns-in-Ok g c =
    let options = c.args.options.now in
    of_own (λ (q : QueryFacts _) (j : JobFacts). Judges q j options.depth options.paced (map (λ v. v.items) c.args.journal.now) c.args.answer.now c.audit_job.result)
    _ _ _ _ c.in-Ok.ensures.table c.in-Ok.ensures.job (record { merge = c.audit_job.ensures.found; answers = c.audit_job.ensures.answered; none = c.audit_job.ensures.none })

pub returns-in-Err : goal.returns-in-Err
returns-in-Err g c = record { merge = tt; answers = tt; none = λ e. cc }
