-- The name that is picked is that of the job.
use Rattle.std.specs.Prelude.{false}
use Rattle.mp_test_runs.proofs.schedule.the_schedule_of_seed_0.Given as goal

abbrev pub ghosts-seed_makes_the_steps : goal.ghosts-seed_makes_the_steps
ghosts-seed_makes_the_steps g a = record { job = record a.job.now { paced = false } }
