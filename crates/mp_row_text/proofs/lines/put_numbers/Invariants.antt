-- What is written, with the numbers that are left, is all.
use Rattle.std.proofs.Common.{◌≡◌, ◌++◌, ◌∷◌, drop, map}
use Rattle.std.specs.List.{flat_map}
use Rattle.mp_model.specs.declared.fields.Field.TheVariants.{Number}
use Rattle.mp_model.specs.Answers.{text_of}
use Rattle.mp_row_text.proofs.lines.put_numbers.Given as goal

abbrev pub invariant-loop-number : goal.invariant-loop-number
invariant-loop-number l =
    l.out.items ++ flat_map (λ f. 124 ∷ text_of f) (map Number (drop l.number-index l.numbers)) ≡ l.initial.out.items ++ flat_map (λ f. 124 ∷ text_of f) (map Number l.numbers)
