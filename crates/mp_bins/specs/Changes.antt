-- The moves of what was noted, as they are kept: by stage, the owner before, time and bin.
use Rattle.std.specs.Prelude.{◌≡◌, ◌≢◌, ◌↔◌, ◌⊎◌, ℕ, suc, ◌<◌, List, [], ◌∷◌, length, AllPairs, Contains, Option, None, Some}
use Rattle.mp_names.specs.declared.controls.Control.{Control}
use Rattle.mp_names.specs.declared.controls.Move.{Move}
use Rattle.mp_names.specs.declared.pointstamps.TimedBin.{TimedBin}
use Rattle.mp_names.specs.Names.{is_before}
use Rattle.mp_names.specs.Controls.{owner_below}
use Rattle.mp_bins.specs.declared.kept.StageBin.{StageBin}
use Rattle.mp_bins.specs.declared.owners.Note.{Note}
use Rattle.mp_bins.specs.Notes.{Layout, controls_in, note_at}
use Rattle.mp_bins.specs.Laws.{IsMoveOf}
use Rattle.mp_bins.specs.Leaving.{IsAfter, bin_at}
use Rattle.std.specs.Prelude.{true}

-- what decides which of two moves stands first
abbrev pub rank_of_move : Move → List ℕ
rank_of_move m = m.stage ∷ m.from ∷ m.time ∷ m.bin ∷ m.to ∷ []

-- each move stands before all of a greater rank
abbrev pub AreRanked : List Move → Type 0
AreRanked changes = AllPairs (λ a b. is_before (rank_of_move a) (rank_of_move b) ≡ true) changes

-- they are the moves of what was noted, each once
pub record AreChangesOf (layout : Layout) (notes : List Note) (changes : List Move) : Type 0 where
  pub each : (move : Move) → (Contains changes move ↔ IsMoveOf (controls_in notes) layout move)
  pub ranked : AreRanked changes

-- by these control records it is the move of the bin at the time
pub record IsMoveThere (controls : List Control) (of : StageBin) (time : ℕ) (move : Move) : Type 0 where
  pub of_stage : move.stage ≡ of.stage
  pub of_bin : move.bin ≡ of.bin
  pub of_time : move.time ≡ time
  pub from : move.from ≡ owner_below controls of.first of.stage of.bin time
  pub to : move.to ≡ owner_below controls of.first of.stage of.bin (suc time)
  pub changed : move.from ≢ move.to

-- the same at a time that there may be
abbrev pub IsMoveThen : List Control → StageBin → Option ℕ → Move → Type 0
IsMoveThen controls of None move = ⊥
IsMoveThen controls of (Some time) move = IsMoveThere controls of time move

-- the note at the place is one of the bin
abbrev pub IsOfBin : List Note → ℕ → Control → Type 0
IsOfBin notes at c = (at < length notes) × ((note_at notes at).control.stage ≡ c.stage) × ((note_at notes at).control.bin ≡ c.bin)

-- it is one of the bin and of this time, another one than the record's; or it is none of the bin, or of the same time
abbrev pub IsNextTime : List Note → ℕ → Control → Option ℕ → Type 0
IsNextTime notes at c None = IsOfBin notes at c → (note_at notes at).control.time ≡ c.time
IsNextTime notes at c (Some time) = IsOfBin notes at c × ((note_at notes at).control.time ≡ time) × (time ≢ c.time)

-- without the one move and with the other, where there are such
abbrev pub IsReplaced : List Move → Option Move → Option Move → List Move → Type 0
IsReplaced before old new after = (move : Move) → (Contains after move ↔ ((Contains before move × (old ≢ Some move)) ⊎ (new ≡ Some move)))

-- where the moves from the worker after a place begin
abbrev pub key_after : Option TimedBin → List ℕ
key_after None = []
key_after (Some last) = last.time ∷ suc last.bin ∷ []

abbrev pub key_of : ℕ → ℕ → Option TimedBin → List ℕ
key_of stage worker after = stage ∷ worker ∷ key_after after

-- it is one of the moves from the worker in the stage, and comes after the place
pub record IsFrom (changes : List Move) (stage worker : ℕ) (after : Option TimedBin) (move : Move) : Type 0 where
  pub there : Contains changes move
  pub of_stage : move.stage ≡ stage
  pub of_worker : move.from ≡ worker
  pub later : IsAfter after move.time move.bin

-- none of them comes between the place and this one
abbrev pub IsFirstFrom : List Move → ℕ → ℕ → Option TimedBin → Move → Type 0
IsFirstFrom changes stage worker after move =
    IsFrom changes stage worker after move × ((other : Move) → IsFrom changes stage worker after other → IsAfter (Some (bin_at other.time other.bin)) move.time move.bin → ⊥)

abbrev pub NoneIsFrom : List Move → ℕ → ℕ → Option TimedBin → Type 0
NoneIsFrom changes stage worker after = (other : Move) → IsFrom changes stage worker after other → ⊥
