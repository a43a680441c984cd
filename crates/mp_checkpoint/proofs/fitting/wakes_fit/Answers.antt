-- One more of them stands behind the one before it.
use Rattle.std.proofs.Common.{◌+◌, ◌-◌, refl, arith}
use Rattle.mp_model.specs.QueryLaws.{WakeIsBefore}
use Rattle.mp_checkpoint_laws.specs.Files.{WakeStands, format_of}
use Rattle.mp_checkpoint.proofs.Ascending.{wakes_rise, one_fits, at_place, pair_at}
use Rattle.mp_checkpoint.proofs.fitting.wakes_fit.Goals as goal
use Rattle.mp_checkpoint.proofs.fitting.wakes_fit.Goals.{else-i-gt0-via-then-i-gt0+else-not-is_wake_before, else-i-gt0-via-else-i-gt0}

pub loop-i-preserved : goal.loop-i-preserved
loop-i-preserved g c =
    let vs = g.Q.Query.values c.args.query.now in
    let P = WakeStands (format_of g.Q.Saved.NUMBER vs (g.Q.Query.facts vs) g.Q.Query.text_of) c.args.time in
    let xs = c.args.wakes.now in
    let i = c.loop-i.i in
    one_fits P WakeIsBefore xs wakes_rise i (i + 1) refl c.loop-i.invariant
    (at_place xs P i c.index-wakes-i.result (omega arith) c.index-wakes-i.is (c.wake_stands.ensures.0 c.if-not-wake_stands.false))
    (elim c.else-i-gt0.branch [
      | else-i-gt0-via-then-i-gt0+else-not-is_wake_before w ↦ λ some. pair_at xs WakeIsBefore (i - 1) i w.index-wakes-i-then-i-gt0.result w.index-wakes-i-then-i-gt0-2.result (omega arith) (omega arith) w.index-wakes-i-then-i-gt0.is w.index-wakes-i-then-i-gt0-2.is (w.is_wake_before.ensures.0 w.if-not-is_wake_before.false)
      | else-i-gt0-via-else-i-gt0 w ↦ λ some. absurd (omega (arith, some, w.if-i-gt0.false))
    ])

pub returns : goal.returns
returns g c = (λ e. record { stand = λ k d l. c.loop-i.invariant.stand k d (omega (arith, l)); ascend = λ j k d l m. c.loop-i.invariant.ascend j k d l (omega (arith, m)) }, λ h. refl)
