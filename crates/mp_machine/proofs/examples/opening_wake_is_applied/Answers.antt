use Rattle.mp_machine.proofs.Samples.{opening_wake_is_applied}
use Rattle.mp_machine.proofs.examples.opening_wake_is_applied.Goals as goal

pub returns : goal.returns
returns c = opening_wake_is_applied
