-- Each digit multiplies what the digits before it are worth by ten and adds its own worth.
use Rattle.std.proofs.Common.{◌≡◌, ◌≤◌, ◌+◌, take, ap, ◌∙◌, arith}
use Rattle.std.proofs.lemmas.List.{take_all}
use Rattle.mp_text.specs.Numbers.{value_of}
use Rattle.mp_text.proofs.NumberLemmas.{value_of-more, value_of-take-le}
use Rattle.mp_text.proofs.numbers.value_within.Goals as goal

pub returns-in_err-checked_mul : goal.returns-in_err-checked_mul
returns-in_err-checked_mul c =
    let more = value_of-more c.args.digits.now c.loop-digit.digit-index c.requires (omega arith) in
    let part = value_of-take-le c.args.digits.now (c.loop-digit.digit-index + 1) in
    let large : value_of c.args.digits.now ≤ c.args.max → ⊥ = λ within. c.in_err-checked_mul.ensures (omega (arith, more, part, within)) in
    rw c.from_residual.ensures large

pub overflow_sub-digit : goal.overflow_sub-digit
overflow_sub-digit c = (value_of-more c.args.digits.now c.loop-digit.digit-index c.requires (omega arith)).0

pub returns-in_err-value : goal.returns-in_err-value
returns-in_err-value c =
    let more = value_of-more c.args.digits.now c.loop-digit.digit-index c.requires (omega arith) in
    let part = value_of-take-le c.args.digits.now (c.loop-digit.digit-index + 1) in
    let large : value_of c.args.digits.now ≤ c.args.max → ⊥ =
    λ within. c.in_err-value.ensures (omega (arith, more, part, within, c.in_ok-checked_mul.ensures)) in
    rw c.from_residual-in_err-value.ensures large

pub returns-then-value-max : goal.returns-then-value-max
returns-then-value-max c =
    let more = value_of-more c.args.digits.now c.loop-digit.digit-index c.requires (omega arith) in
    let part = value_of-take-le c.args.digits.now (c.loop-digit.digit-index + 1) in
    λ within. omega (arith, more, part, within, c.in_ok-checked_mul.ensures, c.in_ok-value.ensures)

pub loop-digit-preserved : goal.loop-digit-preserved
loop-digit-preserved c =
    let more = value_of-more c.args.digits.now c.loop-digit.digit-index c.requires (omega arith) in
    record {
      worth = omega (arith, more, c.in_ok-checked_mul.ensures, c.in_ok-value.ensures);
      within = c.if-value-max.false;
    }

pub returns : goal.returns
returns c =
    let all : take c.loop-digit.digit-index c.args.digits.now ≡ c.args.digits.now = take_all _ _ (omega arith) in
    let same : c.loop-digit.value ≡ value_of c.args.digits.now = c.loop-digit.invariant.worth ∙ ap value_of all in
    (omega (arith, same, c.loop-digit.invariant.within), same)
