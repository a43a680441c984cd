use Rattle.std.proofs.Common.{◌<◌, ◌∙◌, arith, length}
use Rattle.std.proofs.Math.ListN.{length-set}
use Rattle.mp_host_places.proofs.FirstWakes.{one_told}
use Rattle.mp_host_places.proofs.firsts.firsts_of.Goals as goal

pub first_wake-requires : goal.first_wake-requires
first_wake-requires g c = rw c.of.ensures (c.requires.spans.each c.loop-bin.bin)

pub loop-bin-preserved : goal.loop-bin-preserved
loop-bin-preserved g c =
    let bin = c.loop-bin.bin in
    let firsts = c.loop-bin.firsts in
    let inside : bin < length firsts = omega (arith, c.loop-bin-test.true, c.loop-bin.invariant.count) in
    rw (c.set.ensures, c.first_wake.ensures) (record {
      count = length-set firsts bin _ ∙ c.loop-bin.invariant.count;
      each = one_told firsts c.args.held.now bin inside c.loop-bin.invariant.each;
    })

pub returns : goal.returns
returns g c = record { count = c.loop-bin.invariant.count; each = λ b l. c.loop-bin.invariant.each b (omega (arith, c.loop-bin-test.false, l)) }
