use Rattle.mp_machine.proofs.Full.{full}
use Rattle.mp_machine.proofs.steps.closed_logs_are_full.Goals as goal

pub returns : goal.returns
returns c = λ o w log ok l good closed written. full o ok w log good closed written
