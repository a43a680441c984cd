-- The value and one comparison are the definition's answer.
use Rattle.std.proofs.Common.{◌∙◌, Ok, ap, arith, sym}
use Rattle.std.proofs.lemmas.Bool.{false_from_ne_true}
use Rattle.mp_text.proofs.NumberLemmas.{number_of-digits, number_of-ok, number_of-range}
use Rattle.mp_text.proofs.numbers.number.Goals as goal

pub returns-in-Some : goal.returns-in-Some
returns-in-Some c =
    let value = c.in-Some.ensures in
    ap Ok value.1 ∙ sym (number_of-ok c.args.text.now c.args.max value.0 (omega (arith, value.1, c.if-value-max.true)))

pub returns-in-Some-2 : goal.returns-in-Some-2
returns-in-Some-2 c =
    let value = c.in-Some.ensures in
    sym (number_of-range c.args.text.now c.args.max value.0 (omega (arith, value.1, c.if-value-max.false)))

pub returns-in-None : goal.returns-in-None
returns-in-None c = sym (number_of-digits c.args.text.now c.args.max (false_from_ne_true _ c.in-None.ensures))
