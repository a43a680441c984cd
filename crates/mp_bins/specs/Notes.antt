-- The control records that were noted, and what they say of owners and moves.
use Rattle.std.specs.Prelude.{◌≡◌, ℕ, suc, Bool, true, false, cond, not, ◌&&◌, ◌||◌, ◌==◌, List, [], ◌∷◌, map, slice_index_or}
use Rattle.std.specs.List.{All, prefix_len}
use Rattle.std.specs.List.Sorted.{IsPartitionPoint}
use Rattle.mp_names.specs.declared.names.Name.{Name}
use Rattle.mp_names.specs.declared.controls.Shape.{Shape}
use Rattle.mp_names.specs.declared.controls.Control.{Control}
use Rattle.mp_names.specs.declared.controls.Move.{Move}
use Rattle.mp_names.specs.Names.{is_before}
use Rattle.mp_names.specs.Controls.{no_control, owner_below, is_change, move_in, moves_in}
use Rattle.mp_bins.specs.declared.owners.Note.{Note}
pub use Rattle.mp_layout.specs.Layouts.{FirstFits, IsShape, IsWithin, Layout, first_among, first_owner}

-- the layout of a job, what was noted, ascending by rank, and how many more notes there is room for
pub record Notes : Type 0 where
  pub layout : Layout
  pub noted : List Note
  pub room : ℕ

-- the control records, in the order of the notes
abbrev pub controls_in : List Note → List Control
controls_in notes = map (λ n. n.control) notes

-- what stands where there is no note
abbrev pub no_note : Note
no_note = record { index = 0; control = no_control }

-- the note at a place of the list
abbrev pub note_at : List Note → ℕ → Note
note_at notes i = slice_index_or notes i no_note

-- a record is noted at this index
abbrev pub is_noted : List Note → ℕ → Bool
is_noted [] index = false
is_noted (n ∷ ns) index = n.index == index || is_noted ns index

-- what decides which of two notes comes first: the stage, then the bin, the time and the index
abbrev pub rank_of_note : Note → List ℕ
rank_of_note note = note.control.stage ∷ note.control.bin ∷ note.control.time ∷ note.index ∷ []

-- the list with one more note, before the first one of a greater rank
abbrev pub with_note : List Note → Note → List Note
with_note [] note = note ∷ []
with_note (n ∷ ns) note = cond (is_before (rank_of_note note) (rank_of_note n)) (note ∷ n ∷ ns) (n ∷ with_note ns note)

-- how many notes stand before the first one of a greater rank
abbrev pub place_of_note : List Note → Note → ℕ
place_of_note notes note = prefix_len (λ n. not (is_before (rank_of_note note) (rank_of_note n))) notes

-- no note follows one of a greater rank
abbrev pub AreInOrder : List Note → Type 0
AreInOrder [] = Unit {0}
AreInOrder (n ∷ ns) = All (λ m. is_before (rank_of_note m) (rank_of_note n) ≡ false) ns × AreInOrder ns

-- the first so many notes, and no others, are before the limit: of a smaller stage, bin and time
abbrev pub IsSplitAt : List Note → ℕ → ℕ → ℕ → ℕ → Type 0
IsSplitAt notes stage bin limit count =
    IsPartitionPoint (λ n. is_before (rank_of_note n) (stage ∷ bin ∷ limit ∷ []) ≡ true) (λ n. is_before (rank_of_note n) (stage ∷ bin ∷ limit ∷ []) ≡ false) notes count

-- each record that was noted does
abbrev pub AreWithin : Shape → List Note → Type 0
AreWithin shape notes = All (λ n. IsWithin shape n.control) notes

-- the owner of a bin just before a time, by what was noted
abbrev pub owner_before : Notes → ℕ → ℕ → ℕ → ℕ
owner_before notes stage bin time = owner_below (controls_in notes.noted) (first_owner notes.layout stage bin) stage bin time

-- the owner of a bin at a time, by what was noted
abbrev pub owner_at : Notes → ℕ → ℕ → ℕ → ℕ
owner_at notes stage bin time = owner_before notes stage bin (suc time)

-- the owner of the packet's bin changes at its time
abbrev pub is_move_of : Notes → Name → Bool
is_move_of notes packet = is_change (controls_in notes.noted) (λ stage bin. first_owner notes.layout stage bin) packet

-- the move of a packet
abbrev pub move_of : Notes → Name → Move
move_of notes packet = move_in (controls_in notes.noted) (λ stage bin. first_owner notes.layout stage bin) packet

-- the moves among what was noted, by time, stage and bin
abbrev pub moves_of : Notes → List Move
moves_of notes = moves_in (controls_in notes.noted) (λ stage bin. first_owner notes.layout stage bin)
