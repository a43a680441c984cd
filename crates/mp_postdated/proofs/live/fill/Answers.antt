-- The wakes that are in the set are the first ones.
use Rattle.std.proofs.Common.{◌≤◌, ◌+◌, arith}
use Rattle.std.specs.HashSet.{spare}
use Rattle.mp_postdated.proofs.Filled.{all_filled, one_filled}
use Rattle.mp_postdated.proofs.live.fill.Goals as goal

pub loop-wake-preserved : goal.loop-wake-preserved
loop-wake-preserved c =
    let enough : spare c.args.live.now ≤ spare c.loop-wake.live + c.loop-wake.wake-index = c.loop-wake.invariant.room in
    let less : spare c.loop-wake.live ≤ spare c.insert.new.self + 1 = c.in-Ok.ensures.spare in
    record {
      first = one_filled c.args.wakes.now c.loop-wake.wake-index c.loop-wake.live.keys c.insert.new.self.keys c.loop-wake-test.true c.loop-wake.invariant.first c.in-Ok.ensures.updates.0;
      room = omega arith;
    }

pub returns-clause-exact : goal.returns-clause-exact
returns-clause-exact c = all_filled c.args.wakes.now c.loop-wake.wake-index c.loop-wake.live.keys c.loop-wake-test.false c.loop-wake.invariant.first
