-- The name that is picked is that of the job with three bids.
use Rattle.mp_samples.specs.Jobs.{three_bids}
use Rattle.mp_test_parts.proofs.output.a_row_that_is_held_again_goes_in_front.Given as goal

abbrev pub ghosts-rows_go_in_order : goal.ghosts-rows_go_in_order
ghosts-rows_go_in_order g a = record { job = three_bids }
