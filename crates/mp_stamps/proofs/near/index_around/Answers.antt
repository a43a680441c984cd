use Rattle.mp_stamps.proofs.Parts.{found_in_part}
use Rattle.mp_stamps.proofs.near.index_around.Goals as goal

pub returns-in-Ok : goal.returns-in-Ok
returns-in-Ok c = found_in_part c.args.times.now c.args.time _ c.back_to-from.result c.in-Ok.index c.binary_search.result c.in-Ok.is c.binary_search.ensures.bound c.binary_search.ensures.position
