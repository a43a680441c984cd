use Rattle.mp_handoff.proofs.Same.{movers_always_stay}
use Rattle.mp_handoff.proofs.laws.movers_stay.Goals as goal

pub returns : goal.returns
returns c = movers_always_stay
