use Rattle.mp_names.proofs.Hosts.{first_pending, pending_first}
use Rattle.mp_names.proofs.Samples.{opening_wake_goes_on}
use Rattle.mp_names.proofs.laws.opening_wakes_are_in_hand.Goals as goal

pub returns-clause-start : goal.returns-clause-start
returns-clause-start c = λ o w j t k. (pending_first o w j t k, first_pending o w j t k)

pub returns-clause-goes_on : goal.returns-clause-goes_on
returns-clause-goes_on c = opening_wake_goes_on
