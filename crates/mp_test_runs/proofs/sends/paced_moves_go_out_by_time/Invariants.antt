-- The name that is picked is that of the job as it is run.
use Rattle.std.specs.Prelude.{true}
use Rattle.mp_test_runs.proofs.sends.paced_moves_go_out_by_time.Given as goal

abbrev pub ghosts-sent_paced : goal.ghosts-sent_paced
ghosts-sent_paced g a = record { job = record a.job.now { paced = true } }
