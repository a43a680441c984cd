use Rattle.mp_machine.proofs.Samples.{paced_moves_wait}
use Rattle.mp_machine.proofs.examples.paced_moves_wait.Goals as goal

pub returns : goal.returns
returns c = paced_moves_wait
