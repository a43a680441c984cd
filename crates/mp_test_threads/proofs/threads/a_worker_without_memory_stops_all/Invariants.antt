-- The name that is picked is that of the job.
use Rattle.std.specs.Prelude.{false}
use Rattle.mp_test_threads.proofs.threads.a_worker_without_memory_stops_all.Given as goal

abbrev pub ghosts-stops : goal.ghosts-stops
ghosts-stops g a = record { job = record a.job.now { paced = false } }
