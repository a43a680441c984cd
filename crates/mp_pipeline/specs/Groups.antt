-- What a stage makes of a group, by its line.
use Rattle.std.specs.Prelude.{ℕ, ◌≡◌, ◌+◌, ◌-◌, ◌^◌, ◌==◌, Option, Some, None, List, [], ◌∷◌, fold, if◌then◌else◌, length, map, min}
use Rattle.std.specs.List.{sum_by}
use Rattle.std.specs.Option.{option_map, option_to_list, unwrap_or}
use Rattle.mp_model.specs.declared.fields.Field.TheVariants.{Number}
use Rattle.mp_model.specs.declared.record.Rec.{Rec}
use Rattle.mp_model.specs.declared.value.Value.{Value}
use Rattle.mp_model.specs.declared.value.Value.TheVariants.{Row}
use Rattle.mp_model.specs.Entry.{Entry}
use Rattle.mp_pipeline.specs.declared.stage.Form.{Form}
use Rattle.mp_pipeline.specs.declared.stage.Form.TheVariants.{Pass, Count, Sum, Window}
use Rattle.mp_pipeline.specs.declared.stage.StageLine.{StageLine}
use Rattle.mp_pipeline.specs.Stages.{value_by}

-- the greatest count and sum, the greatest number of 64 bits
abbrev pub greatest_total : ℕ
greatest_total = 2 ^ 64 - 1

-- a number that grows, up to that one
abbrev pub grown : ℕ → ℕ → ℕ
grown n more = min (n + more) greatest_total

-- The cell

-- the cell of a key that has had no group: a count or a sum of 0, and of a window none
abbrev pub fresh_by : Form → Option ℕ
fresh_by Count = Some 0
fresh_by Sum = Some 0
fresh_by _ = None

-- the cell before the records of a group: of a window none, where the group ends it
abbrev pub at_start : Form → Option ℕ → Entry → Option ℕ
at_start Window cell e = if e.woken then None else cell
at_start _ cell e = cell

-- what a record adds: 1 to a count, its value to a sum
abbrev pub added_as : Form → StageLine → Rec → ℕ
added_as Count line r = 1
added_as _ line r = value_by line r

abbrev pub added_by : StageLine → Rec → ℕ
added_by line r = added_as line.form line r

-- the cell with these records, which add to 0 where there is none
abbrev pub with_records : StageLine → Option ℕ → List Rec → Option ℕ
with_records line cell rs = fold (λ c r. Some (grown (unwrap_or c 0) (added_by line r))) cell rs

-- the cell after a group; what passes leaves none
abbrev pub after_by : Form → StageLine → Option ℕ → Entry → Option ℕ
after_by Pass line cell e = cell
after_by form line cell e = with_records line (at_start form cell e) e.recs

abbrev pub after_group : StageLine → Option ℕ → Entry → Option ℕ
after_group line cell e = after_by line.form line cell e

-- The outputs

-- what a stage gives: a key and a value, the two fields of a row
abbrev pub row : ℕ → ℕ → Value
row key value = Row (Number key ∷ Number value ∷ [])

-- the row of a key with a total, if there is one
abbrev pub total_rows : ℕ → Option ℕ → List Value
total_rows key total = option_to_list (option_map (row key) total)

-- the rows of a key, one for each record, with its value
abbrev pub rows_of_records : StageLine → ℕ → List Rec → List Value
rows_of_records line key rs = map (λ r. row key (value_by line r)) rs

-- the total that a group says, by the cells before and after it: a count or a sum where there are records, a window's sum where it ends
abbrev pub said_total : Form → Option ℕ → Option ℕ → Entry → Option ℕ
said_total Pass before after e = None
said_total Window before after e = if e.woken then before else None
said_total _ before after e = if length e.recs == 0 then None else after

-- what a group gives, by these cells
abbrev pub given_as : Form → StageLine → Option ℕ → Option ℕ → Entry → List Value
given_as Pass line before after e = rows_of_records line e.key e.recs
given_as form line before after e = total_rows e.key (said_total form before after e)

abbrev pub given_by : StageLine → Option ℕ → Option ℕ → Entry → List Value
given_by line before after e = given_as line.form line before after e

-- no fewer than the outputs of a group
abbrev pub most_by : Form → Entry → ℕ
most_by Pass e = length e.recs
most_by _ e = 1

-- Totals: the number of records where they are counted, and else the sum of their values, or the greatest total where that is less. They begin with
-- what was kept, or with nothing
abbrev pub TotalsAreSums : Type 0
TotalsAreSums =
    (line : StageLine) (kept : Option ℕ) (r : Rec) (rs : List Rec)
    → with_records line kept (r ∷ rs) ≡ Some (min (unwrap_or kept 0 + sum_by (added_by line) (r ∷ rs)) greatest_total)
