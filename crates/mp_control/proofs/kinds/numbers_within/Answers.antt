use Rattle.std.proofs.Common.{◌≡◌, ◌+◌, ◌∙◌, length, drop, sym, refl, arith, length-drop}
use Rattle.std.proofs.lemmas.Bool.{eq-eqb}
use Rattle.mp_control.proofs.Numbers.{values}
use Rattle.mp_control.proofs.kinds.numbers_within.Goals as goal

pub returns : goal.returns
returns c =
    let same : length c.args.fields.now ≡ length c.args.limits.now + 1 = omega (arith, sym c.count.ensures ∙ c.if-count-limits.false) in
    let read = c.in_ok-read_numbers.ensures in
    (rw (eq-eqb _ _ same, read.0) refl, read.1 ∙ values c.args.limits.now (drop 1 c.args.fields.now) (omega (arith, same, length-drop 1 c.args.fields.now)))
