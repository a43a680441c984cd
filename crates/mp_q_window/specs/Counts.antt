-- The greatest counts of a window.
use Rattle.std.specs.Prelude.{ℕ, ◌==◌, Option, Some, None, List, [], ◌∷◌, fold, if◌then◌else◌, max}
use Rattle.std.specs.List.{filter_map}
use Rattle.mp_model.specs.declared.fields.Field.TheVariants.{Number}
use Rattle.mp_model.specs.declared.record.Rec.{Rec}
use Rattle.mp_model.specs.declared.value.Value.{Value}
use Rattle.mp_model.specs.declared.value.Value.TheVariants.{Count, Row}

-- the count that a value says; other values say none
abbrev pub count_of : Value → ℕ
count_of (Count auction count) = count
count_of _ = 0

-- the greatest count among records
abbrev pub greatest_of : List Rec → ℕ
greatest_of rs = fold (λ m r. max m (count_of r.value)) 0 rs

-- the row of an auction with this count: the auction, and the count
abbrev pub row_at : ℕ → Value → Option Value
row_at m (Count auction count) = if count == m then Some (Row (Number auction ∷ Number m ∷ [])) else None
row_at m _ = None

-- the rows of the records with the greatest count, in order
abbrev pub rows_of : List Rec → List Value
rows_of rs = filter_map (λ r. row_at (greatest_of rs) r.value) rs
