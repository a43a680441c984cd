-- What passes is the run of the moment.
use Rattle.std.proofs.Common.{◌≤◌, ◌∙◌, List, ap, length, subst, sym, take}
use Rattle.std.proofs.lemmas.List.{take_rest}
use Rattle.mp_chart.specs.declared.entry.Entry.{Entry}
use Rattle.mp_group_lists.specs.Moments.{AreByMoment}
use Rattle.mp_group_lists.proofs.Runs.{IsUpto, by_moment-drop, run_is}
use Rattle.mp_group_lists.proofs.moments.entries_at.Goals as goal

pub returns : goal.returns
returns c = λ by.
    let es = c.args.entries.now in
    let m = c.args.moment in
    let n = c.count_before-start.result in
    let k = c.run_upto-count.result in
    let whole = take_rest es n in
    let bound = subst (λ (ys : List Entry). k ≤ length ys) whole c.run_upto-count.ensures.bound in
    let point = subst (λ (ys : List Entry). IsUpto m ys k) whole (c.run_upto-count.ensures.point (subst AreByMoment (sym whole) (by_moment-drop n es by))) in
    ap (take k) whole ∙ sym (run_is m es n k c.count_before-start.ensures.bound bound (c.count_before-start.ensures.point by) point)
