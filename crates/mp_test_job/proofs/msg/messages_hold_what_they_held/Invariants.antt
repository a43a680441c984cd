-- The name that is picked is that of the job with a control record.
use Rattle.mp_samples.specs.Jobs.{one_move}
use Rattle.mp_test_job.proofs.msg.messages_hold_what_they_held.Given as goal

abbrev pub ghosts-all_are_sent : goal.ghosts-all_are_sent
ghosts-all_are_sent g a = record { job = one_move }
