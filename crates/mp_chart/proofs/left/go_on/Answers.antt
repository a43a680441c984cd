use Rattle.std.proofs.Common.{arith}
use Rattle.mp_chart.proofs.Parts.{part_joined}
use Rattle.mp_chart.proofs.left.go_on.Goals as goal

pub returns-in-Some-clause-work : goal.returns-in-Some-clause-work
returns-in-Some-clause-work c = λ _ a t.
    let joined = c.in-Some.ensures in
    let parts = part_joined c.args.run c.args.work c.in-Some.longer joined.joined joined.loc joined.time a t in
    omega arith

pub returns-in-None-clause-work : goal.returns-in-None-clause-work
returns-in-None-clause-work c = λ enough a t.
    let taken = c.take_if_left.ensures.work enough a t in
    omega arith
