use Rattle.mp_machine.proofs.Keeps.{step_keeps}
use Rattle.mp_machine.proofs.steps.steps_keep_logs_legal.Goals as goal

pub returns : goal.returns
returns c = λ o w worker kind x xs ok l fits good known next ready names comes. step_keeps o ok w l worker good known kind x xs next ready names comes
