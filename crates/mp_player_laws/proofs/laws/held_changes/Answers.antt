use Rattle.mp_machine.specs.Runs.{run_of_machine}
use Rattle.mp_machine.proofs.Worlds.{run_right}
use Rattle.mp_player_laws.proofs.Held.{held_changes}
use Rattle.mp_player_laws.proofs.laws.held_changes.Goals as goal

pub returns : goal.returns
returns c = λ o depth steps ok w kind x can j y is. held_changes o ok depth (run_of_machine o depth steps) w ((run_right o ok depth steps).logs w can.0.0) kind x can j y is
