-- What holds of all notes.
use Rattle.std.specs.Prelude.{◌≡◌, ◌≢◌, ◌↔◌, ℕ, suc, ◌<◌, ◌≤◌, true, ◌||◌, ◌==◌, List, [], ◌∷◌, length, AllPairs, Contains}
use Rattle.std.specs.List.{All}
use Rattle.mp_names.specs.declared.controls.Control.{Control}
use Rattle.mp_names.specs.declared.controls.Move.{Move}
use Rattle.mp_names.specs.Names.{IsBefore}
use Rattle.mp_names.specs.Controls.{control_of, owner_below}
use Rattle.mp_bins.specs.declared.owners.Note.{Note}
use Rattle.mp_bins.specs.Notes.{Layout, Notes, AreInOrder, first_owner, is_noted, moves_of, owner_before, with_note}

-- notes of two indices come to the same in either order
abbrev pub OrderDoesNotMatter : Type 0
OrderDoesNotMatter = (notes : List Note) (a b : Note) → a.index ≢ b.index → with_note (with_note notes a) b ≡ with_note (with_note notes b) a

-- the note is the record that stands at its index of the list
abbrev pub IsNoteOf : List Control → Note → Type 0
IsNoteOf controls note = (note.index < length controls) × (control_of controls note.index ≡ note.control)

-- each note is, and they are in order
pub record AreNotesOf (controls : List Control) (notes : Notes) : Type 0 where
  pub in_order : AreInOrder notes.noted
  pub each : All (IsNoteOf controls) notes.noted

-- every record of a time below t is noted
abbrev pub AreNotedBelow : List Control → Notes → ℕ → Type 0
AreNotedBelow controls notes t = (i : ℕ) → i < length controls → (control_of controls i).time < t → is_noted notes.noted i ≡ true

-- where every record of a time below t is noted, the owners up to t are those that the list says
abbrev pub OwnersAreToldByNotes : Type 0
OwnersAreToldByNotes =
    (controls : List Control) (notes : Notes) (t : ℕ) → AreNotesOf controls notes → AreNotedBelow controls notes t → (stage bin u : ℕ) → u ≤ t → owner_before notes stage bin u ≡ owner_below controls (first_owner notes.layout stage bin) stage bin u

-- no notes are notes of any list
abbrev pub NoNotesAreOfAll : Type 0
NoNotesAreOfAll = (controls : List Control) (notes : Notes) → notes.noted ≡ [] → AreNotesOf controls notes

-- notes of a list, with one more of its records noted, are notes of it
abbrev pub NotedRecordsAreNotes : Type 0
NotedRecordsAreNotes =
    (controls : List Control) (notes new : Notes) (note : Note) → AreNotesOf controls notes → IsNoteOf controls note → new.noted ≡ with_note notes.noted note → AreNotesOf controls new

-- with one more note its index is noted, and those that were
abbrev pub NotedIndicesAreKept : Type 0
NotedIndicesAreKept = (notes : List Note) (note : Note) (index : ℕ) → is_noted (with_note notes note) index ≡ (note.index == index || is_noted notes index)

-- every record of the list is noted
abbrev pub AreAllNoted : List Control → Notes → Type 0
AreAllNoted controls notes = (i : ℕ) → i < length controls → is_noted notes.noted i ≡ true

-- by the list another worker owns the bin from this time on than just before it, and the move tells both
pub record IsMoveOf (controls : List Control) (layout : Layout) (move : Move) : Type 0 where
  pub from : move.from ≡ owner_below controls (first_owner layout move.stage move.bin) move.stage move.bin move.time
  pub to : move.to ≡ owner_below controls (first_owner layout move.stage move.bin) move.stage move.bin (suc move.time)
  pub changed : move.from ≢ move.to

-- by time, then by stage, then by bin, the first move comes first
abbrev pub ComesFirst : Move → Move → Type 0
ComesFirst a b = IsBefore (a.time ∷ a.stage ∷ a.bin ∷ []) (b.time ∷ b.stage ∷ b.bin ∷ [])

-- they are the moves of the list, each once and no others, by time, stage and bin
pub record AreMovesOf (controls : List Control) (layout : Layout) (moves : List Move) : Type 0 where
  pub each : (move : Move) → (Contains moves move ↔ IsMoveOf controls layout move)
  pub in_order : AllPairs ComesFirst moves

-- where every record is noted, the moves are those of the list
abbrev pub MovesAreToldByNotes : Type 0
MovesAreToldByNotes = (controls : List Control) (notes : Notes) → AreNotesOf controls notes → AreAllNoted controls notes → AreMovesOf controls notes.layout (moves_of notes)
