use Rattle.std.proofs.Common.{arith, refl}
use Rattle.mp_test_runs.proofs.jobs.job_by.Goals as goal

pub new-requires-2-clause-shape : goal.new-requires-2-clause-shape
new-requires-2-clause-shape c = λ κs. record { some_worker = c.requires.some_worker; few_workers = c.requires.few_workers; few_bins = omega arith; bins = (5, omega arith, refl) }
