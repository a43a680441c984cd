use Rattle.std.proofs.Common.{arith, refl}
use Rattle.mp_test_runs.proofs.sends.job_of.Goals as goal

pub new-requires-2-clause-shape : goal.new-requires-2-clause-shape
new-requires-2-clause-shape c = λ κs. record { some_worker = omega arith; few_workers = omega arith; few_bins = omega arith; bins = (0, omega arith, refl) }
