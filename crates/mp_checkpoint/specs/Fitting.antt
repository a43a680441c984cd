-- Cells and wakes that a file may say.
use Rattle.std.specs.Prelude.{ℕ, List, All, AllPairs}
use Rattle.mp_model.specs.Facts.{SavedWake}
use Rattle.mp_model.specs.QueryLaws.{WakeIsBefore}
use Rattle.mp_opening.specs.declared.checkpoint.KeyCell.{KeyCell}
use Rattle.mp_opening.specs.Checkpoints.{KeyIsBefore}
use Rattle.mp_checkpoint_laws.specs.Files.{CellStands, Format, WakeStands}

module _ {Cell : Type 0} (f : Format Cell) (t : ℕ) where
  -- each of them may be saved at this time, and they ascend
  pub record CellsFit (cells : List (KeyCell Cell)) : Type 0 where
    pub stand : All (CellStands f t) cells
    pub ascend : AllPairs KeyIsBefore cells

  pub record WakesFit (wakes : List SavedWake) : Type 0 where
    pub stand : All (WakeStands f t) wakes
    pub ascend : AllPairs WakeIsBefore wakes
