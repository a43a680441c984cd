-- The name that is picked is that of the job.
use Rattle.std.specs.Prelude.{false}
use Rattle.mp_test_runs.proofs.handing.stopped_handoff.Given as goal

abbrev pub ghosts-follows : goal.ghosts-follows
ghosts-follows g a = record { job = record a.job.now { paced = false } }
