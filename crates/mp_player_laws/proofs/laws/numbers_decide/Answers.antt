use Rattle.mp_machine.specs.Runs.{run_of_machine}
use Rattle.mp_machine.proofs.Worlds.{run_right}
use Rattle.mp_player_laws.proofs.Sending.{always_in_order}
use Rattle.mp_player_laws.proofs.Counted.{lists_told, steps_counted}
use Rattle.mp_player_laws.proofs.Rising.{numbers_rise}
use Rattle.mp_player_laws.proofs.laws.numbers_decide.Goals as goal

pub returns-clause-told : goal.returns-clause-told
returns-clause-told c = λ o depth steps ok w l. lists_told o w ((run_of_machine o depth steps).worker w).log ((run_right o ok depth steps).logs w l) (always_in_order o ok depth steps w l)

pub returns-clause-decided : goal.returns-clause-decided
returns-clause-decided c = λ o depth steps ok. steps_counted o ok depth steps

pub returns-clause-rise : goal.returns-clause-rise
returns-clause-rise c = λ o depth steps ok w kind x can. numbers_rise o ok depth (run_of_machine o depth steps) w kind x can
