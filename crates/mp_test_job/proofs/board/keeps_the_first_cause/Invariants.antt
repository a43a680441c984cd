-- The name that is picked is that of the job.
use Rattle.mp_test_job.proofs.board.keeps_the_first_cause.Given as goal

abbrev pub ghosts-first_cause : goal.ghosts-first_cause
ghosts-first_cause g a = record { job = a.job.now }
