-- The name that is picked is that of the job.
use Rattle.mp_command.proofs.saving.save_to.Given as goal

abbrev pub ghosts-left_at : goal.ghosts-left_at
ghosts-left_at g a = record { job = a.job.now }
