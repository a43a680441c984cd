-- The name that is picked is that of the job in which nothing happens.
use Rattle.mp_test_parts.specs.Quiet.{quiet}
use Rattle.mp_test_parts.proofs.handoff.bins_leave_in_turn.Given as goal

abbrev pub ghosts-bin_goes_and_comes_back : goal.ghosts-bin_goes_and_comes_back
ghosts-bin_goes_and_comes_back g a = record { job = quiet }
