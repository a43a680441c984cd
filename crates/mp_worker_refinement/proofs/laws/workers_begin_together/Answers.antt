use Rattle.mp_worker_refinement.proofs.Begins.{opening_is_the_start}
use Rattle.mp_worker_refinement.proofs.laws.workers_begin_together.Goals as goal

pub returns : goal.returns
returns c = opening_is_the_start
