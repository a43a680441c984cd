use Rattle.std.proofs.Common.{arith, refl}
use Rattle.mp_test_job.proofs.stops.job_until_30.Goals as goal

pub until-requires-clause-shape : goal.until-requires-clause-shape
until-requires-clause-shape c = λ κs. record { some_worker = omega arith; few_workers = omega arith; few_bins = omega arith; bins = (2, omega arith, refl) }
