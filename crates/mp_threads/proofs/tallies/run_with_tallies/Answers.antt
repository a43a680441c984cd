use Rattle.std.proofs.Common.{refl}
use Rattle.std.proofs.lemmas.Result.{err_from_is_err_and}
use Rattle.mp_model.specs.Tables.{table_of}
use Rattle.mp_answer_laws.proofs.Runs.{handed_on, nothing_begun, told, untold}
use Rattle.mp_outline.specs.JobOutline.{outline_of}
use Rattle.mp_threads.proofs.Keeping.{kept_tell, none_is_kept, still_keep}
use Rattle.mp_threads.proofs.Tallied.{tallies_of_run}
use Rattle.mp_threads.proofs.tallies.run_with_tallies.Goals as goal

pub returns-in_default-clause-leaves : goal.returns-in_default-clause-leaves
returns-in_default-clause-leaves g c = nothing_begun (table_of g.Q.Query.facts g.J.Naming.job) g.J.Naming.job g.S.Sink.written g.S.Sink.faults g.S.Sink.frame _ _ refl

pub run_workers-requires-clause-start : goal.run_workers-requires-clause-start
run_workers-requires-clause-start g c κs within = c.in-Ok.ensures.new.start

pub told_by-requires-clause-finished : goal.told_by-requires-clause-finished
told_by-requires-clause-finished g c κs within =
    let run = c.in_ok-workers.ensures.run in
    record { finished = run.finished; keep = still_keep _ _ c.args.plan.keeps run.marks c.in-Ok.ensures.new.keep }

pub returns-in-Err-clause-leaves : goal.returns-in-Err-clause-leaves
returns-in-Err-clause-leaves g c = untold (table_of g.Q.Query.facts g.J.Naming.job) g.J.Naming.job g.S.Sink.written g.S.Sink.faults g.S.Sink.frame _ _ _ c.in_ok-workers.ensures.run.leaves

pub returns-in-Ok-told_by-clause-tallies : goal.returns-in-Ok-told_by-clause-tallies
returns-in-Ok-told_by-clause-tallies g c = tallies_of_run g.Q.Query.facts c.args.job.now g.J.Naming.job c.requires.run.run _ c.in-Ok-told_by.ensures.tallies

pub returns-in-Ok-told_by-clause-kept : goal.returns-in-Ok-told_by-clause-kept
returns-in-Ok-told_by-clause-kept g c =
    let job = g.J.Naming.job in
    kept_tell (outline_of (table_of g.Q.Query.facts job) job) (λ v. v.items) c.args.plan.keeps c.in-Ok-told_by.ended.kept.items c.in-Ok-told_by.ensures.kept

pub returns-in-Ok-told_by-clause-none_kept : goal.returns-in-Ok-told_by-clause-none_kept
returns-in-Ok-told_by-clause-none_kept g c =
    let job = g.J.Naming.job in
    none_is_kept (outline_of (table_of g.Q.Query.facts job) job) (λ v. v.items) c.args.plan.keeps c.in-Ok-told_by.ended.kept.items c.in-Ok-told_by.ensures.kept

pub returns-in_err-workers-clause-leaves : goal.returns-in_err-workers-clause-leaves
returns-in_err-workers-clause-leaves g c =
    let p = err_from_is_err_and c.from_residual.result c.from_residual.ensures.1 in
    rw (p.1, p.2) (handed_on (table_of g.Q.Query.facts g.J.Naming.job) g.J.Naming.job g.S.Sink.written g.S.Sink.faults g.S.Sink.frame _ _ _ c.in_err-workers.ensures.run.leaves)

pub returns-in-Ok-told_by-clause-leaves : goal.returns-in-Ok-told_by-clause-leaves
returns-in-Ok-told_by-clause-leaves g c = told (table_of g.Q.Query.facts g.J.Naming.job) g.J.Naming.job g.S.Sink.written g.S.Sink.faults g.S.Sink.frame _ _ _ _ c.in_ok-workers.ensures.run.leaves
