use Rattle.std.proofs.Common.{arith}
use Rattle.mp_work_lists.proofs.Growing.{more_by_set}
use Rattle.mp_work_lists.proofs.gathering.add_to_last.Goals as goal

pub returns-clause-added : goal.returns-clause-added
returns-clause-added c = λ _.
    let joined = c.in-Some-joined.ensures in
    more_by_set c.index.result.now c.args.work c.in-Some-joined.joined joined.joined joined.loc joined.time c.args.works.now.items c.in-Some.last
    (omega (arith, c.args.works.now.ok.0, c.in-Some.ensures, c.len.ensures))
    c.index.ensures
