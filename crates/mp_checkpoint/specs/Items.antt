-- What a line says, and what it takes that it may be written.
use Rattle.std.specs.Prelude.{◌≡◌, ℕ, List, All, true}
use Rattle.mp_checkpoint_laws.specs.Files.{Format, SavedLine, cell_line, cells_on, wake_line}
use Rattle.mp_checkpoint.specs.declared.item.Item.{Item}
use Rattle.mp_checkpoint.specs.declared.item.Item.TheVariants.{Cell, Wake}

module _ {C : Type 0} where
  -- the line that says it
  abbrev pub line_said : Item C → SavedLine C
  line_said (Cell c) = cell_line c.now
  line_said (Wake w) = wake_line w

  -- the cells of these lines may be saved at this time
  abbrev pub CellsMay : Format C → ℕ → List (SavedLine C) → Type 0
  CellsMay f t lines = All (λ s. f.allows s.stage s.key t s.cell ≡ true) (cells_on lines)
