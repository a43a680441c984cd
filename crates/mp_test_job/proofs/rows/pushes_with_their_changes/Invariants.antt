-- The name that is picked is that of the job.
use Rattle.mp_test_job.proofs.rows.pushes_with_their_changes.Given as goal

abbrev pub ghosts-logs_grow : goal.ghosts-logs_grow
ghosts-logs_grow g a = record { job = a.job.now }
