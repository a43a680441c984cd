use Rattle.mp_machine.specs.Runs.{run_of_machine}
use Rattle.mp_machine.proofs.Worlds.{run_right}
use Rattle.mp_player_laws.proofs.Changing.{log_changes}
use Rattle.mp_player_laws.proofs.Made.{condition_of, leads_to_exchange, leads_to_step, made_from}
use Rattle.mp_player_laws.proofs.laws.conditions_make_steps.Goals as goal

pub returns-clause-made : goal.returns-clause-made
returns-clause-made c = λ o depth world w step ok. (condition_of o ok depth world w step, made_from o ok depth world w step)

pub returns-clause-lead : goal.returns-clause-lead
returns-clause-lead c = λ o depth world w kind ok. (leads_to_step o ok depth world w kind, leads_to_exchange o ok depth world w kind)

pub returns-clause-changed : goal.returns-clause-changed
returns-clause-changed c = λ o depth steps ok w kind x can e. log_changes o ok depth (run_of_machine o depth steps) w ((run_right o ok depth steps).grows w can.0.0) kind x can e
