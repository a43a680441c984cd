-- What the looks at the ends of the two parts tell.
use Rattle.std.proofs.Common.{◌≡◌, ◌<◌, ◌≤◌, ◌-◌, true, false, List, get_or, length, subst, arith}
use Rattle.mp_chart.specs.declared.entry.Entry.{Entry}
use Rattle.mp_group_lists.specs.Moments.{comes_before, moment_of}
use Rattle.mp_group_lists.proofs.Runs.{before_from_ends}
use Rattle.mp_group_lists.proofs.moments.is_count_before.Goals as goal

pub returns-then-ends_before-clause-point : goal.returns-then-ends_before-clause-point
returns-then-ends_before-clause-point c = λ no_earlier by.
    let m = c.args.moment in
    let within : c.args.count ≤ length c.args.entries.now = let h = c.if-count-entries.false in omega arith in
    let last =
    subst (λ (es : List Entry). (d : Entry) → 0 < length es → comes_before (moment_of (get_or es (length es - 1) d).name) m ≡ true)
    c.split_at.ensures.front
    (c.ends_before.ensures c.if-ends_before.true) in
    let next =
    subst (λ (es : List Entry). (d : Entry) → 0 < length es → comes_before (moment_of (get_or es 0 d).name) m ≡ false)
    c.split_at.ensures.back
    (c.begins_no_earlier.ensures no_earlier) in
    before_from_ends m c.args.entries.now c.args.count within by last next
