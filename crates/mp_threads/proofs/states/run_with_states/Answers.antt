use Rattle.std.proofs.Common.{refl}
use Rattle.std.proofs.lemmas.Result.{err_from_is_err_and}
use Rattle.mp_model.specs.Tables.{table_of}
use Rattle.mp_answer_laws.proofs.Runs.{handed_on, nothing_begun, told, untold}
use Rattle.mp_threads_member.specs.Below.{states_of_job}
use Rattle.mp_threads.proofs.Tallied.{tallies_of_run}
use Rattle.mp_threads.proofs.states.run_with_states.Goals as goal

pub returns-in_default-clause-leaves : goal.returns-in_default-clause-leaves
returns-in_default-clause-leaves g c = nothing_begun (table_of g.Q.Query.facts g.J.Naming.job) g.J.Naming.job g.S.Sink.written g.S.Sink.faults g.S.Sink.frame _ _ refl

pub returns-in-Err-clause-leaves : goal.returns-in-Err-clause-leaves
returns-in-Err-clause-leaves g c = untold (table_of g.Q.Query.facts g.J.Naming.job) g.J.Naming.job g.S.Sink.written g.S.Sink.faults g.S.Sink.frame _ _ _ c.in_ok-workers.ensures.run.leaves

pub returns-in-Ok-states_told_by-clause-tallies : goal.returns-in-Ok-states_told_by-clause-tallies
returns-in-Ok-states_told_by-clause-tallies g c = tallies_of_run g.Q.Query.facts c.args.job.now g.J.Naming.job c.requires.run.run _ c.in-Ok-states_told_by.ensures.tallies

pub returns-in-Ok-states_told_by-clause-states : goal.returns-in-Ok-states_told_by-clause-states
returns-in-Ok-states_told_by-clause-states g c = states_of_job g.Q.Query.facts c.args.job.now g.J.Naming.job c.requires.run.run _ c.in-Ok-states_told_by.ensures.states

pub run_workers-requires-clause-start : goal.run_workers-requires-clause-start
run_workers-requires-clause-start g c κs within = c.in-Ok.ensures.new.start

pub states_told_by-requires-clause-finished : goal.states_told_by-requires-clause-finished
states_told_by-requires-clause-finished g c κs within = c.in_ok-workers.ensures.run.finished

pub returns-in_err-workers-clause-leaves : goal.returns-in_err-workers-clause-leaves
returns-in_err-workers-clause-leaves g c =
    let p = err_from_is_err_and c.from_residual.result c.from_residual.ensures.1 in
    rw (p.1, p.2) (handed_on (table_of g.Q.Query.facts g.J.Naming.job) g.J.Naming.job g.S.Sink.written g.S.Sink.faults g.S.Sink.frame _ _ _ c.in_err-workers.ensures.run.leaves)

pub returns-in-Ok-states_told_by-clause-leaves : goal.returns-in-Ok-states_told_by-clause-leaves
returns-in-Ok-states_told_by-clause-leaves g c = told (table_of g.Q.Query.facts g.J.Naming.job) g.J.Naming.job g.S.Sink.written g.S.Sink.faults g.S.Sink.frame _ _ _ _ c.in_ok-workers.ensures.run.leaves
