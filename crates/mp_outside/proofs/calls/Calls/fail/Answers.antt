use Rattle.mp_outside.proofs.CallLemmas.{faults_among-other}
use Rattle.mp_outside.proofs.calls.Calls.fail.Goals as goal

pub returns-in_ok-push-clause-faults : goal.returns-in_ok-push-clause-faults
returns-in_ok-push-clause-faults c = rw (← c.self.view_is, c.in_ok-push.ensures.items) (faults_among-other _ _ _ c.if-nth-self.true)
