-- The cell of a key in a map of cells.
use Rattle.std.specs.Prelude.{ℕ, nat_eq}
use Rattle.std.specs.Option.{unwrap_or}
use Rattle.std.specs.HashMap.{HashMap, get}

module _ {Cell S : Type 0} where
  -- the cell that the map has of a key, else the fresh one
  abbrev pub cell_of : Cell → HashMap ℕ Cell S → ℕ → Cell
  cell_of fresh cells k = unwrap_or (get nat_eq cells k) fresh
