use Rattle.std.proofs.Common.{arith, refl}
use Rattle.mp_test_runs.proofs.handing.one_move_until_60.Goals as goal

pub until-requires-clause-shape : goal.until-requires-clause-shape
until-requires-clause-shape c = λ κs. record { some_worker = omega arith; few_workers = omega arith; few_bins = omega arith; bins = (0, omega arith, refl) }
