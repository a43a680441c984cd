-- The name that is picked is that of the job.
use Rattle.mp_test_job.proofs.board.shows_all_shares.Given as goal

abbrev pub ghosts-empty_log_again : goal.ghosts-empty_log_again
ghosts-empty_log_again g a = record { job = a.job.now }
