use Rattle.std.proofs.Common.{◌<◌, ◌≤◌, ap, length, get_or, arith}
use Rattle.std.proofs.lemmas.List.{take_all}
use Rattle.std.proofs.lemmas.List.Sums.{sum_by_more, sum_by_more_le}
use Rattle.mp_names.specs.declared.locations.Loc.TheVariants.{Ctl}
use Rattle.mp_chart.specs.declared.work.Work.{Work}
use Rattle.mp_chart.specs.Left.{left_in, part_at, work_at}
use Rattle.mp_chart.proofs.Parts.{part_here}
use Rattle.mp_chart.proofs.left.take_all.Goals as goal

pub loop-work-preserved : goal.loop-work-preserved
loop-work-preserved c =
    let none : Work = record { loc = Ctl; time = 0; count = 0 } in
    let i = c.loop-work.work-index in
    let run = c.loop-work.run in
    let low : i < length c.args.done.now = c.loop-work-test.true in
    record {
      left = c.go_on-run.ensures.left;
      so_far = λ has a t.
          let here = part_here run in
          let sum = sum_by_more_le (part_at run.loc run.time) c.args.done.now i none low in
          let so_far = c.loop-work.invariant.so_far has run.loc run.time in
          let all = has run.loc run.time in
          let enough : run.count ≤ left_in c.loop-work.counts run.loc run.time = omega arith in
          let gone = c.go_on-run.ensures.work enough a t in
          let before = c.loop-work.invariant.so_far has a t in
          let more = sum_by_more (part_at a t) c.args.done.now i none low in
          omega arith;
    }

pub returns-clause-work : goal.returns-clause-work
returns-clause-work c = λ has a t.
    let run = c.loop-work.run in
    let all = take_all c.loop-work.work-index c.args.done.now c.loop-work-test.false in
    let here = part_here run in
    let so_far = c.loop-work.invariant.so_far has run.loc run.time in
    let has_all = has run.loc run.time in
    let whole_there = ap (work_at run.loc run.time) all in
    let enough : run.count ≤ left_in c.loop-work.counts run.loc run.time = omega arith in
    let taken = c.take_if_left.ensures.work enough a t in
    let before = c.loop-work.invariant.so_far has a t in
    let whole = ap (work_at a t) all in
    omega arith
