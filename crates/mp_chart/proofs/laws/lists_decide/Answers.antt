use Rattle.mp_machine.specs.Runs.{run_of_machine}
use Rattle.mp_player_laws.proofs.Counted.{steps_counted}
use Rattle.mp_chart.proofs.Deciding.{is_decided}
use Rattle.mp_chart.proofs.laws.lists_decide.Goals as goal

pub returns : goal.returns
returns c = λ o depth steps ok w kind x l g. is_decided o depth (run_of_machine o depth steps) w (steps_counted o ok depth steps w l) kind x g
