use Rattle.std.proofs.Common.{arith, refl}
use Rattle.mp_test_job.proofs.board.two_bids.Goals as goal

pub job_of_bids-requires-clause-shape : goal.job_of_bids-requires-clause-shape
job_of_bids-requires-clause-shape c = record { some_worker = omega arith; few_workers = omega arith; few_bins = omega arith; bins = (0, omega arith, refl) }
