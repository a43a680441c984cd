-- The names that are picked are those of the job as it is run.
use Rattle.std.specs.Prelude.{true, false}
use Rattle.mp_test_runs.proofs.sends.paced_sends.Given as goal

abbrev pub ghosts-sent_paced : goal.ghosts-sent_paced
ghosts-sent_paced g a = record { job = record a.job.now { paced = true } }

abbrev pub ghosts-sent_at_once : goal.ghosts-sent_at_once
ghosts-sent_at_once g a = record { job = record a.job.now { paced = false } }
