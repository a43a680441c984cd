-- The name that is picked is that of the job with three bids.
use Rattle.mp_samples.specs.Jobs.{three_bids}
use Rattle.mp_test_parts.proofs.output.each_time_is_written_once_passed.Given as goal

abbrev pub ghosts-times_are_written : goal.ghosts-times_are_written
ghosts-times_are_written g a = record { job = three_bids }
