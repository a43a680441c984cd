-- The cell that a map has of a key is the one that stands beside it by key.
use Rattle.std.proofs.Common.{◌≡◌, ℕ}
use Rattle.std.specs.HashMap.{HashMap}
use Rattle.mp_msg.specs.States.{by_key, cell_in}
use Rattle.mp_msg.proofs.Sorted.{cell_in-by_key}
use Rattle.mp_host_states.specs.Cells.{cell_of}

module _ {Cell S : Type 0} (fresh : Cell) where
  pub cell_is : (cells : HashMap ℕ Cell S) (k : ℕ) → cell_in fresh (by_key cells.entries) k ≡ cell_of fresh cells k
  cell_is cells k = cell_in-by_key fresh cells.entries k
