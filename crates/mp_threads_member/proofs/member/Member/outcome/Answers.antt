use Rattle.std.proofs.Common.{refl}
use Rattle.mp_threads_member.proofs.member.Member.outcome.Goals as goal

pub returns-then-is_finished-clause-finished : goal.returns-then-is_finished-clause-finished
returns-then-is_finished-clause-finished g c = λ over.
    let knows = c.if-is_finished.ensures.0 refl in
    rw (← c.self.view_is) (record { knows = knows; full = c.log_is_known.ensures.full knows })
