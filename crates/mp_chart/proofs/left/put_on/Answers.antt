use Rattle.std.proofs.Common.{◌<◌, ◌^◌, ◌+◌, ◌+ℤ◌, refl, ap, ◌∙◌, rules, arith}
use Rattle.mp_stamps.specs.Counts.{count_in}
use Rattle.mp_chart.specs.Left.{left_in}
use Rattle.mp_chart.proofs.Parts.{part_most}
use Rattle.mp_chart.proofs.Taking.{pos_more, small_is, still_left, work_put}
use Rattle.mp_chart.proofs.left.put_on.Goals as goal

pub returns-clause-left : goal.returns-clause-left
returns-clause-left c =
    let work = c.args.work in
    let low : work.count < 2 ^ 32 = search rules in
    let here = c.add.ensures.counted c.requires.counted ∙ ap (λ z. count_in c.args.counts.now work.loc work.time +ℤ z) (small_is work.count low) ∙ pos_more (count_in c.args.counts.now work.loc work.time) (left_in c.args.counts.now work.loc work.time) work.count (c.requires.left.whole_counts work.loc work.time) in
    still_left c.args.counts.now c.add.new.self work c.requires.left c.add.ensures.same c.add.ensures.others (left_in c.args.counts.now work.loc work.time + work.count) here (let few = c.requires.few in omega arith) (λ n. absurd (n c.requires.counted))

pub returns-clause-work : goal.returns-clause-work
returns-clause-work c =
    let work = c.args.work in
    let low : work.count < 2 ^ 32 = search rules in
    let here = c.add.ensures.counted c.requires.counted ∙ ap (λ z. count_in c.args.counts.now work.loc work.time +ℤ z) (small_is work.count low) ∙ pos_more (count_in c.args.counts.now work.loc work.time) (left_in c.args.counts.now work.loc work.time) work.count (c.requires.left.whole_counts work.loc work.time) in
    work_put c.args.counts.now c.add.new.self work c.requires.left c.add.ensures.same c.add.ensures.others (left_in c.args.counts.now work.loc work.time + work.count) here refl

pub returns-clause-few : goal.returns-clause-few
returns-clause-few c = λ a t.
    let low : c.args.work.count < 2 ^ 32 = search rules in
    let sum = returns-clause-work c a t in
    let most = part_most a t c.args.work in
    omega arith
