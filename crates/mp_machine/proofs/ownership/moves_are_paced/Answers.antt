use Rattle.mp_machine.proofs.Pacing.{packets_taken, one_time}
use Rattle.mp_machine.proofs.ownership.moves_are_paced.Goals as goal

pub returns-clause-wait : goal.returns-clause-wait
returns-clause-wait c = λ o depth steps ok paced. packets_taken o ok depth steps paced

pub returns-clause-one_time : goal.returns-clause-one_time
returns-clause-one_time c = λ o depth steps ok paced. one_time o ok depth steps paced
