use Rattle.std.proofs.Common.{arith}
use Rattle.mp_host_places.proofs.FirstWakes.{first_set}
use Rattle.mp_host_places.proofs.firsts.renew.Goals as goal

pub first_wake-requires : goal.first_wake-requires
first_wake-requires g c = rw c.of.ensures (c.requires.spans.each c.args.bin)

pub returns : goal.returns
returns g c = λ bins was are others.
    let count = are.count in
    rw (c.set.ensures, c.first_wake.ensures) (first_set bins c.args.firsts.now was c.args.held.now c.args.bin (omega arith) are others)
