use Rattle.mp_host_laws.proofs.Logs.{same_test}
use Rattle.mp_host_laws.proofs.Waiting.{in_wake, wake_in}
use Rattle.mp_host_places.proofs.states.is_woken.Goals as goal

pub returns : goal.returns
returns c =
    let ws = c.args.wakes.now.wakes in
    let t = c.args.time in
    let k = c.args.key in
    same_test _ _ (λ e. in_wake ws t k (c.has.ensures.0 e)) (λ e. c.has.ensures.1 (wake_in ws t k e))
