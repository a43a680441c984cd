use Rattle.mp_machine.specs.Worlds.{start_of_machine}
use Rattle.mp_machine.proofs.Worlds.{after_more, turns_more}
use Rattle.mp_machine.proofs.runs.runs_continue.Goals as goal

pub returns : goal.returns
returns c = λ o depth steps more. (after_more o depth steps more (start_of_machine o), turns_more o depth steps more (start_of_machine o))
