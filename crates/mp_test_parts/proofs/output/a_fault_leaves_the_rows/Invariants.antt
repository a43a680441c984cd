-- The name that is picked is that of the job with three bids.
use Rattle.mp_samples.specs.Jobs.{three_bids}
use Rattle.mp_test_parts.proofs.output.a_fault_leaves_the_rows.Given as goal

abbrev pub ghosts-fault_leaves_rows : goal.ghosts-fault_leaves_rows
ghosts-fault_leaves_rows g a = record { job = three_bids }
