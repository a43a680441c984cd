-- The name that is picked is that of the job, paced by the plan, on threads and by a seed.
use Rattle.mp_command.specs.Config.{run_of}
use Rattle.mp_run_command.proofs.running.run_into.Given as goal

abbrev pub ghosts-run_with_tallies : goal.ghosts-run_with_tallies
ghosts-run_with_tallies g a = record { job = run_of a.plan.paced a.job.now }

abbrev pub ghosts-replay_with_tallies : goal.ghosts-replay_with_tallies
ghosts-replay_with_tallies g a = record { job = run_of a.plan.paced a.job.now }
