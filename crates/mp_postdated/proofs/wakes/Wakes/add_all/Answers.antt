-- The wakes that are added are those of the first times.
use Rattle.std.proofs.Common.{◌+◌, ◌≤◌, length, arith}
use Rattle.mp_postdated.proofs.Several.{all_added, none_added, one_added}
use Rattle.mp_postdated.proofs.Ordered.{ordered-ascends}
use Rattle.mp_postdated.proofs.wakes.Wakes.add_all.Goals as goal

pub loop-time-init : goal.loop-time-init
loop-time-init c =
    let room : length c.args.times.now ≤ c.args.self.now.room = c.requires in
    (none_added c.args.times.now c.args.key c.args.self.now.wakes (rw (← c.self.view_is) (ordered-ascends c.self.inside.live.keys)), omega arith)

pub loop-time-preserved : goal.loop-time-preserved
loop-time-preserved c =
    let room : length c.args.times.now ≤ c.loop-time.self.room + c.loop-time.time-index = c.loop-time.invariant.1 in
    let less : c.loop-time.self.room ≤ c.put.new.self.room + 1 = c.put.ensures.room in (
      one_added c.args.times.now c.args.key c.loop-time.time-index c.args.self.now.wakes c.loop-time.self.wakes c.put.new.self.wakes c.loop-time-test.true c.loop-time.invariant.0 c.put.ensures.ascending c.put.ensures.exact,
      omega arith,
    )

pub returns-clause-exact : goal.returns-clause-exact
returns-clause-exact c = all_added c.args.times.now c.args.key c.loop-time.time-index c.args.self.now.wakes c.loop-time.self.wakes c.loop-time-test.false c.loop-time.invariant.0
