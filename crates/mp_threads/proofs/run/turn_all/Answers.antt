use Rattle.std.proofs.Common.{◌∙◌, arith, length-set}
use Rattle.std.proofs.Math.Seq.{map-set_same}
use Rattle.mp_ruled.proofs.Places.{set_here}
use Rattle.mp_threads_place.specs.Places.{mark_at}
use Rattle.mp_threads.proofs.Leaves.{on_err}
use Rattle.mp_threads.proofs.run.turn_all.Goals as goal

pub returns-in_err-one-clause-marks : goal.returns-in_err-one-clause-marks
returns-in_err-one-clause-marks g c =
    map-set_same mark_at c.loop-i.places c.loop-i.i c.turn_here.new.place c.index-places-i.result c.turn_here.ensures.mark
    ∙ c.loop-i.invariant.marks

pub loop-i-preserved : goal.loop-i-preserved
loop-i-preserved g c =
    let i = c.loop-i.invariant in
    let places = c.loop-i.places in
    let now = c.turn_here.new.place in
    record {
      marks = map-set_same mark_at places c.loop-i.i now c.index-places-i.result c.turn_here.ensures.mark ∙ i.marks;
      many = length-set places c.loop-i.i now ∙ i.many;
    }

pub returns-in_err-one-clause-told : goal.returns-in_err-one-clause-told
returns-in_err-one-clause-told g c =
    let i = c.loop-i.i in
    let now = c.turn_here.new.place in
    on_err c.from_residual.result (i, now, c.in_err-one.field-0.0, set_here c.loop-i.places i now (omega (arith, c.loop-i-test.true, c.loop-i.invariant.many)), c.in_err-one.ensures.told)
