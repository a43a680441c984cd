-- The names that are picked are those of the job as it is run.
use Rattle.std.specs.Prelude.{true, false}
use Rattle.mp_test_runs.proofs.packets.pacing_keeps_few_packets_on_their_way.Given as goal

abbrev pub ghosts-most_paced : goal.ghosts-most_paced
ghosts-most_paced g a = record { job = record a.job.now { paced = true } }

abbrev pub ghosts-most_at_once : goal.ghosts-most_at_once
ghosts-most_at_once g a = record { job = record a.job.now { paced = false } }
