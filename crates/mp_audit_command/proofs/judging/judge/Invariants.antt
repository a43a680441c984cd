-- The name that is picked is that of the job, paced by the plan.
use Rattle.mp_command.specs.Config.{run_of}
use Rattle.mp_audit_command.proofs.judging.judge.Given as goal

abbrev pub ghosts-audit_job : goal.ghosts-audit_job
ghosts-audit_job g a = record { job = run_of a.plan.paced a.job.now }
