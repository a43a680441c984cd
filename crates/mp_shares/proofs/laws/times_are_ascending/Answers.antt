use Rattle.std.proofs.Common.{◌++◌}
use Rattle.mp_model.specs.Folds.{times_in}
use Rattle.mp_model.specs.Stages.{input_records}
use Rattle.mp_shares.specs.Times.{control_times, wake_times}
use Rattle.mp_shares.proofs.Ascents.{IsStrictlyIncreasing-ascending}
use Rattle.mp_shares.proofs.Gathering.{have_times, times_have}
use Rattle.mp_shares.proofs.laws.times_are_ascending.Goals as goal

pub returns-clause-rise : goal.returns-clause-rise
returns-clause-rise g c = λ q events controls. IsStrictlyIncreasing-ascending ((times_in q 0 (input_records q events) ++ control_times controls) ++ wake_times q)

pub returns-clause-exact : goal.returns-clause-exact
returns-clause-exact g c = λ q events controls t. (have_times q events controls t, times_have q events controls t)
