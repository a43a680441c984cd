use Rattle.mp_machine.specs.Runs.{run_of_machine}
use Rattle.mp_machine.proofs.Worlds.{run_right}
use Rattle.mp_player_laws.proofs.Doing.{does}
use Rattle.mp_player_laws.proofs.Remaining.{nothing_left, shows_frontier, no_work_at_end, end_from_no_work}
use Rattle.mp_player_laws.proofs.frontiers.work_left_shows_frontiers.Goals as goal

pub returns-clause-done : goal.returns-clause-done
returns-clause-done c = λ o w log a t ok. nothing_left o ok w log t a

pub returns-clause-shown : goal.returns-clause-shown
returns-clause-shown c = λ o logs at f ok good is. shows_frontier o ok logs at good f is

pub returns-clause-end : goal.returns-clause-end
returns-clause-end c = λ o world ok good. (no_work_at_end o ok world good, end_from_no_work o ok world good)

pub returns-clause-falls : goal.returns-clause-falls
returns-clause-falls c = λ o depth steps ok w kind x can. does o ok depth (run_of_machine o depth steps) (run_right o ok depth steps) w can.0.0 kind x can
