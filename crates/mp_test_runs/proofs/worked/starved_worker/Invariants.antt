-- The name that is picked is that of the job.
use Rattle.std.specs.Prelude.{false}
use Rattle.mp_test_runs.proofs.worked.starved_worker.Given as goal

abbrev pub ghosts-starves_and_ends : goal.ghosts-starves_and_ends
ghosts-starves_and_ends g a = record { job = record a.job.now { paced = false } }
