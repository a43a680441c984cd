-- Fields that are numbers alone tell these numbers.
use Rattle.std.proofs.Common.{◌≡◌, ◌∷◌, ◌∙◌, [], ap, get_or, map, refl, sym, ℕ, List}
use Rattle.mp_model.specs.declared.fields.Field.{Field}
use Rattle.mp_model.specs.declared.fields.Field.TheVariants.{Number}
use Rattle.mp_pipeline.specs.Records.{number_of_field}
use Rattle.mp_pipeline.proofs.numbers.row_number.Goals as goal

numbers_told : (ns : List ℕ) → map number_of_field (map Number ns) ≡ ns
numbers_told [] = refl
numbers_told (n ∷ ns) = ap (λ ms. n ∷ ms) (numbers_told ns)

pub returns-in-Numbers : goal.returns-in-Numbers
returns-in-Numbers c =
    c.number_at.ensures
    ∙ ap (λ ns. get_or ns c.args.place 0) (sym (numbers_told c.in-Numbers.numbers.now))
    ∙ ap (λ (fs : List Field). get_or (map number_of_field fs) c.args.place 0) c.in-Numbers.ensures
