-- The test and the value together are the definition's answer.
use Rattle.std.proofs.Common.{sym, ◌∙◌}
use Rattle.std.proofs.lemmas.Bool.{and_parts}
use Rattle.mp_text.proofs.NumberLemmas.{number_of-digits, number_of-ok_or, AllDigits-from_all_ascii_digits}
use Rattle.mp_text.proofs.numbers.number_of_any_length.Goals as goal

pub returns-then-not-is_digits : goal.returns-then-not-is_digits
returns-then-not-is_digits c = sym (number_of-digits c.args.text.now c.args.max (sym c.is_digits.ensures ∙ c.if-not-is_digits.true))

pub value_within-requires : goal.value_within-requires
value_within-requires c =
    AllDigits-from_all_ascii_digits c.args.text.now (and_parts _ _ (sym c.is_digits.ensures ∙ c.if-not-is_digits.false)).1

pub returns : goal.returns
returns c =
    c.ok_or.ensures.value
    ∙ number_of-ok_or c.args.text.now c.args.max c.value_within.result (sym c.is_digits.ensures ∙ c.if-not-is_digits.false) c.value_within.ensures
