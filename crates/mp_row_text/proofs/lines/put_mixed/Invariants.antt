-- What is written, with the fields that are left, is all.
use Rattle.std.proofs.Common.{◌≡◌, ◌++◌, ◌∷◌, drop}
use Rattle.std.specs.List.{flat_map}
use Rattle.mp_model.specs.Answers.{text_of}
use Rattle.mp_row_text.proofs.lines.put_mixed.Given as goal

abbrev pub invariant-loop-field : goal.invariant-loop-field
invariant-loop-field l =
    l.out.items ++ flat_map (λ f. 124 ∷ text_of f) (drop l.field-index l.fields) ≡ l.initial.out.items ++ flat_map (λ f. 124 ∷ text_of f) l.fields
