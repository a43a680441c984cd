use Rattle.std.proofs.Common.{◌≡◌, ◌<◌, ◌≤◌, ◌^◌, ◌-◌, ◌+◌, ◌+ℤ◌, ap, ◌∙◌, rules, arith}
use Rattle.mp_stamps.specs.Counts.{count_in}
use Rattle.mp_chart.specs.Left.{left_in}
use Rattle.mp_chart.proofs.Taking.{less_is, still_left, taken_here, work_taken}
use Rattle.mp_chart.proofs.left.take_off.Goals as goal

pub returns-clause-left : goal.returns-clause-left
returns-clause-left c =
    let work = c.args.work in
    let old = c.args.counts.now in
    let low : work.count < 2 ^ 32 = search rules in
    let here = taken_here old c.add.new.self work c.requires.left c.add.ensures.same c.add.ensures.others c.requires.enough (λ counted. c.add.ensures.counted counted ∙ ap (λ z. count_in old work.loc work.time +ℤ z) (less_is work.count low)) c.add.ensures.dropped in
    let few : left_in old work.loc work.time - work.count < 2 ^ 100 = let f = c.requires.left.few work.loc work.time in omega arith in
    still_left old c.add.new.self work c.requires.left c.add.ensures.same c.add.ensures.others (left_in old work.loc work.time - work.count) here few (λ n. let none = c.requires.left.none_else work.loc work.time n in omega arith)

pub returns-clause-work : goal.returns-clause-work
returns-clause-work c =
    let work = c.args.work in
    let old = c.args.counts.now in
    let low : work.count < 2 ^ 32 = search rules in
    let here = taken_here old c.add.new.self work c.requires.left c.add.ensures.same c.add.ensures.others c.requires.enough (λ counted. c.add.ensures.counted counted ∙ ap (λ z. count_in old work.loc work.time +ℤ z) (less_is work.count low)) c.add.ensures.dropped in
    let enough : work.count ≤ left_in old work.loc work.time = c.requires.enough in
    let sum : left_in old work.loc work.time - work.count + work.count ≡ left_in old work.loc work.time = omega arith in
    work_taken old c.add.new.self work c.requires.left c.add.ensures.same c.add.ensures.others (left_in old work.loc work.time - work.count) here sum
