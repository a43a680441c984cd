-- Values that are answer rows, and queries whose last stage gives no others.
use Rattle.std.specs.Prelude.{◌-◌, All}
use Rattle.mp_model.specs.declared.value.Value.{Value}
use Rattle.mp_model.specs.declared.value.Value.TheVariants.{Row}
use Rattle.mp_model.specs.Entry.{Entry}
use Rattle.mp_model.specs.Facts.{QueryFacts}

-- the value is a row
abbrev pub IsRow : Value → Type 0
IsRow (Row fields) = Unit {0}
IsRow _ = ⊥

module _ {Cell : Type 0} where
  -- the last stage gives rows alone
  abbrev pub GivesRows : QueryFacts Cell → Type 0
  GivesRows q = (cell : Cell) (e : Entry) → All IsRow (q.gives (q.stages - 1) cell e)
