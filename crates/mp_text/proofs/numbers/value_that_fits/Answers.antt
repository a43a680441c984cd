-- Fewer than 19 digits are worth less than 10^18, so the next one fits.
use Rattle.std.proofs.Common.{◌≡◌, arith, ap, sym, ◌∙◌, true≢false, get_or, length, take}
use Rattle.std.proofs.lemmas.Bool.{eqb-false, eqb-true}
use Rattle.std.proofs.lemmas.List.{take_all}
use Rattle.mp_text.specs.Numbers.{value_of}
use Rattle.mp_text.proofs.NumberLemmas.{DigitsBelow-next, digit_range, digit_told, is_number-below, is_number-digit, is_number-some, value_of-next, value_of-small}
use Rattle.mp_text.proofs.numbers.value_that_fits.Goals as goal

pub returns-then-is_empty : goal.returns-then-is_empty
returns-then-is_empty c = λ is. let some = is_number-some c.args.text.now is in let none = eqb-true _ _ (sym c.is_empty.ensures ∙ c.if-is_empty.true) in omega (arith, some, none)

pub returns-then-not-is_ascii_digit : goal.returns-then-not-is_ascii_digit
returns-then-not-is_ascii_digit c =
    λ is. let digit = is_number-digit c.args.text.now c.loop-byte.byte-index is (omega arith) in
    true≢false (sym (digit_told _ digit) ∙ sym c.is_ascii_digit.ensures.value ∙ c.if-not-is_ascii_digit.true)

pub overflow_mul-value : goal.overflow_mul-value
overflow_mul-value c =
    let small = value_of-small c.args.text.now c.loop-byte.byte-index c.loop-byte.invariant.digits (omega (arith, c.requires)) in
    omega (arith, small, c.loop-byte.invariant.worth)

pub overflow_add-value : goal.overflow_add-value
overflow_add-value c =
    let small = value_of-small c.args.text.now c.loop-byte.byte-index c.loop-byte.invariant.digits (omega (arith, c.requires)) in
    let digit = digit_range (get_or c.args.text.now c.loop-byte.byte-index 0) (sym c.is_ascii_digit.ensures.value ∙ c.if-not-is_ascii_digit.false) in
    omega (arith, small, digit, c.loop-byte.invariant.worth, c.from.ensures)

pub loop-byte-preserved : goal.loop-byte-preserved
loop-byte-preserved c =
    let digit = digit_range (get_or c.args.text.now c.loop-byte.byte-index 0) (sym c.is_ascii_digit.ensures.value ∙ c.if-not-is_ascii_digit.false) in
    let next = value_of-next c.args.text.now c.loop-byte.byte-index (omega arith) digit in
    record {
      digits = DigitsBelow-next c.args.text.now c.loop-byte.byte-index c.loop-byte.invariant.digits digit;
      worth = omega (arith, next, c.loop-byte.invariant.worth, c.from.ensures);
    }

pub returns : goal.returns
returns c =
    let end : c.loop-byte.byte-index ≡ length c.args.text.now = omega arith in
    let all : take c.loop-byte.byte-index c.args.text.now ≡ c.args.text.now = take_all _ _ (omega arith) in
    let some = eqb-false _ _ (sym c.is_empty.ensures ∙ c.if-is_empty.false) in (
      is_number-below c.args.text.now (omega (arith, some)) (λ k low. c.loop-byte.invariant.digits k (omega (arith, end, low))),
      c.loop-byte.invariant.worth ∙ ap value_of all,
    )
