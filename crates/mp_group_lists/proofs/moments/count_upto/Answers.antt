-- Those before the moment, and then those up to it.
use Rattle.std.proofs.Common.{List, subst, sym}
use Rattle.std.proofs.lemmas.List.{take_rest}
use Rattle.mp_chart.specs.declared.entry.Entry.{Entry}
use Rattle.mp_group_lists.specs.Moments.{AreByMoment}
use Rattle.mp_group_lists.proofs.Runs.{IsUpto, by_moment-drop, upto_in_parts}
use Rattle.mp_group_lists.proofs.moments.count_upto.Goals as goal

pub returns-clause-point : goal.returns-clause-point
returns-clause-point c = λ by.
    let es = c.args.entries.now in
    let m = c.args.moment in
    let n = c.count_before-start.result in
    let k = c.run_upto-count.result in
    let whole = take_rest es n in
    let point = subst (λ (ys : List Entry). IsUpto m ys k) whole (c.run_upto-count.ensures.point (subst AreByMoment (sym whole) (by_moment-drop n es by))) in
    upto_in_parts m es n k c.count_before-start.ensures.bound (c.count_before-start.ensures.point by) point
