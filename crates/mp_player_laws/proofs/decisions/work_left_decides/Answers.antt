use Rattle.mp_player_laws.proofs.Deciding.{steps_decided}
use Rattle.mp_player_laws.proofs.Sending.{always_in_order}
use Rattle.mp_player_laws.proofs.decisions.work_left_decides.Goals as goal

pub returns-clause-sent : goal.returns-clause-sent
returns-clause-sent c = λ o depth steps ok. always_in_order o ok depth steps

pub returns-clause-decided : goal.returns-clause-decided
returns-clause-decided c = λ o depth steps ok. steps_decided o ok depth steps
