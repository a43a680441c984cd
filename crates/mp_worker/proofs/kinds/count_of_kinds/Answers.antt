use Rattle.std.proofs.Common.{arith}
use Rattle.mp_machine.proofs.Places.{length_kinds}
use Rattle.mp_worker.proofs.kinds.count_of_kinds.Goals as goal

pub returns : goal.returns
returns c = λ o workers stages. let n = length_kinds o in omega arith
