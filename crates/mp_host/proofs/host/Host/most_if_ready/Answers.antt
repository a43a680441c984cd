use Rattle.mp_host.proofs.Told.{one_ready}
use Rattle.mp_host.proofs.host.Host.most_if_ready.Goals as goal

pub returns-clause-most : goal.returns-clause-most
returns-clause-most g c = λ t k ready.
    let told = c.in-Some.ensures in
    let same = one_ready g.J.Naming.job c.args.seen.now c.args.owners.now c.args.self.now t k c.in-Some.group.time c.in-Some.group.key ready told.some in
    rw (same.0, same.1) told.most

pub returns-clause-enough : goal.returns-clause-enough
returns-clause-enough g c = λ t k ready.
    let told = c.in-Some.ensures in
    let same = one_ready g.J.Naming.job c.args.seen.now c.args.owners.now c.args.self.now t k c.in-Some.group.time c.in-Some.group.key ready told.some in
    rw (same.0, same.1) told.enough
