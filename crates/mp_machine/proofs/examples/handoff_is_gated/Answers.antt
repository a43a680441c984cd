use Rattle.mp_machine.proofs.Samples.{handoff_is_gated}
use Rattle.mp_machine.proofs.examples.handoff_is_gated.Goals as goal

pub returns : goal.returns
returns c = handoff_is_gated
