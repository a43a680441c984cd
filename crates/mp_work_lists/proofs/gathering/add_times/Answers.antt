use Rattle.std.proofs.Common.{arith, take}
use Rattle.mp_work_lists.specs.Parts.{work_of_times}
use Rattle.mp_work_lists.proofs.Growing.{as_much, more_and_more, work_of_more}
use Rattle.mp_work_lists.proofs.gathering.add_times.Goals as goal

pub loop-time-preserved : goal.loop-time-preserved
loop-time-preserved c =
    let loc = c.args.loc in
    let each = c.args.each in
    let times = c.args.times.now in
    let i = c.loop-time.time-index in
    let before = work_of_times loc each (take i times) in
    as_much _ _ _ _
    (λ a t. work_of_more loc each times i 0 a t (omega arith))
    (more_and_more _ _ _ _ _ c.loop-time.invariant c.in_ok-add_work.ensures)
