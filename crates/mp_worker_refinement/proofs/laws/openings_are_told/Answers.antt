use Rattle.mp_worker_refinement.proofs.Begins.{opening_is_told}
use Rattle.mp_worker_refinement.proofs.laws.openings_are_told.Goals as goal

pub returns : goal.returns
returns c = opening_is_told
