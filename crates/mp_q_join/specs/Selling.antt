-- What q8 keeps of a seller during a day.
use Rattle.std.specs.Prelude.{ℕ, Bool, true, false, Option, Some, None, List, [], ◌∷◌, codes, fold, if◌then◌else◌}
use Rattle.std.specs.List.{join_with_byte}
use Rattle.std.specs.Option.{unwrap_or}
use Rattle.mp_model.specs.declared.fields.Field.TheVariants.{Number, Text}
use Rattle.mp_model.specs.declared.record.Rec.{Rec}
use Rattle.mp_model.specs.declared.value.Value.{Value}
use Rattle.mp_model.specs.declared.value.Value.TheVariants.{Auction, Person, Row}
use Rattle.mp_model.specs.Entry.{Entry}
use Rattle.mp_q_join.specs.Names.{is_yes, name_is_legal}
use Rattle.mp_q_join.specs.declared.selling.Selling.{Selling}

-- at first there is no name, and it doesn't sell
abbrev pub fresh_cell : Selling
fresh_cell = record { name = None; sells = false }

-- the cell after a value: the first name is kept, and an auction says that it sells
abbrev pub after_value : Selling → Value → Selling
after_value cell (Person id name city state) = record cell { name = Some (unwrap_or cell.name name) }
after_value cell (Auction id seller category reserve expires) = record cell { sells = true }
after_value cell _ = cell

-- the cell after records, one by one
abbrev pub after_records : Selling → List Rec → Selling
after_records cell rs = fold (λ cell r. after_value cell r.value) cell rs

-- the cell before the records of a group: fresh where it is woken
abbrev pub cell_at : Bool → Selling → Selling
cell_at woken cell = if woken then fresh_cell else cell

-- the row of a name that sells: the key and the name
abbrev pub row_of : ℕ → Option (List ℕ) → Bool → Option Value
row_of key (Some name) sells = if sells then Some (Row (Number key ∷ Text name ∷ [])) else None
row_of key None sells = None

-- a group has a row where it is woken
abbrev pub row_in : Selling → Entry → Option Value
row_in cell e = if e.woken then row_of e.key cell.name cell.sells else None

-- Saved cells

-- 1 where it sells, else 0
abbrev pub sells_word : Bool → List ℕ
sells_word sells = if sells then codes "1" else codes "0"

-- the words of a cell: 1 and the name, or 0; and whether it sells
abbrev pub words_of : Option (List ℕ) → Bool → List (List ℕ)
words_of None sells = codes "0" ∷ sells_word sells ∷ []
words_of (Some name) sells = codes "1" ∷ name ∷ sells_word sells ∷ []

-- the text of a cell: its words, cut by `|`
abbrev pub text_of : ℕ → Selling → List ℕ
text_of j cell = join_with_byte 124 (words_of cell.name cell.sells)

-- the cell that words say: without a name there are two
abbrev pub selling_said : List (List ℕ) → Option Selling
selling_said (flag ∷ sells ∷ []) = Some (record { name = None; sells = is_yes sells })
selling_said (flag ∷ name ∷ sells ∷ rest) = Some (record { name = Some name; sells = is_yes sells })
selling_said _ = None

-- a cell may be saved that has a legal name or sells
abbrev pub selling_is_legal : Option (List ℕ) → Bool → Bool
selling_is_legal None sells = sells
selling_is_legal (Some name) sells = name_is_legal name
