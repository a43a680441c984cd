-- The name that is picked is that of the job, paced by the plan, on threads and by a seed.
use Rattle.mp_command.specs.Config.{run_of}
use Rattle.mp_run_command.proofs.stopping.stop_into.Given as goal

abbrev pub ghosts-run_with_states : goal.ghosts-run_with_states
ghosts-run_with_states g a = record { job = run_of a.plan.paced a.job.now }

abbrev pub ghosts-replay_with_states : goal.ghosts-replay_with_states
ghosts-replay_with_states g a = record { job = run_of a.plan.paced a.job.now }
