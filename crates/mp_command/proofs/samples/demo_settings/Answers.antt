-- Each query has a stage.
use Rattle.mp_command.proofs.TwoMoves.{some_stages}
use Rattle.mp_command.proofs.samples.demo_settings.Goals as goal

pub two_moves-requires-clause-stages : goal.two_moves-requires-clause-stages
two_moves-requires-clause-stages c = rw c.shape.ensures (some_stages _ c.requires.sound)
