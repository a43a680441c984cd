-- What is saved at a time, with its cells, and as the state that a job goes on from.
use Rattle.std.specs.Prelude.{◌≡◌, ◌⊎◌, ◌<◌, ℕ, List, map}
use Rattle.mp_model.specs.Facts.{SavedState, SavedWake}
use Rattle.mp_opening.specs.declared.checkpoint.KeyCell.{KeyCell}

-- a time, and the cells and wakes that are left just before it
pub record CheckpointOf (Cell : Type 0) : Type 0 where
  pub time : ℕ
  pub cells : List (KeyCell Cell)
  pub wakes : List SavedWake

-- The same with the texts of its cells
abbrev pub saved_in : {Cell : Type 0} → (ℕ → Cell → List ℕ) → CheckpointOf Cell → SavedState
saved_in text c = record {
  time = c.time;
  cells = map (λ s. record { stage = s.stage; key = s.key; text = text s.stage s.cell }) c.cells;
  wakes = c.wakes;
}

-- the first cell stands in front of the second: by stage, and then by key
abbrev pub KeyIsBefore : {Cell : Type 0} → KeyCell Cell → KeyCell Cell → Type 0
KeyIsBefore c d = (c.stage < d.stage) ⊎ ((c.stage ≡ d.stage) × (c.key < d.key))
