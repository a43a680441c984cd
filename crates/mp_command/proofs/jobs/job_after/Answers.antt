-- The job goes on from the checkpoint that was read.
use Rattle.mp_command.proofs.jobs.job_after.Goals as goal

pub returns-in-Ok-clause-job : goal.returns-in-Ok-clause-job
returns-in-Ok-clause-job g c =
    let plan = c.job_plan-query.ensures in
    let file = rw (c.as_slice.ensures.value, plan.query) at c.in-Ok.ensures.file in
    (c.in-Ok.checkpoint, file, rw (plan.query, plan.events, plan.controls, plan.firsts, plan.shape) at c.in_ok-resume-in-Ok.ensures)
