-- When a bin leaves a worker, by what was noted, and which bin of a stage leaves it next.
use Rattle.std.specs.Prelude.{◌≡◌, ℕ, ◌<◌, ◌⊎◌, true, Option, None, Some}
use Rattle.mp_names.specs.declared.names.Name.TheVariants.{Packet}
use Rattle.mp_names.specs.declared.controls.Move.{Move}
use Rattle.mp_names.specs.declared.pointstamps.TimedBin.{TimedBin}
use Rattle.mp_bins.specs.Notes.{Notes, owner_before, is_move_of, move_of}

-- the bin moves at this time, and just before it the worker owns it
abbrev pub IsLeaving : Notes → ℕ → ℕ → ℕ → ℕ → Type 0
IsLeaving notes stage worker bin time = (is_move_of notes (Packet stage bin time) ≡ true) × (owner_before notes stage bin time ≡ worker)

-- the bin at the time
abbrev pub bin_at : ℕ → ℕ → TimedBin
bin_at time bin = record { time = time; bin = bin }

-- this time and bin come after another, if there is one
abbrev pub IsAfter : Option TimedBin → ℕ → ℕ → Type 0
IsAfter None time bin = Unit {0}
IsAfter (Some last) time bin = (last.time < time) ⊎ ((last.time ≡ time) × (last.bin < bin))

-- the move by which a bin of the stage leaves the worker, and by time and then by bin no other one between the place and this one
pub record IsNextLeaving (notes : Notes) (stage worker : ℕ) (after : Option TimedBin) (move : Move) : Type 0 where
  pub leaves : IsLeaving notes stage worker move.bin move.time
  pub told : move ≡ move_of notes (Packet stage move.bin move.time)
  pub later : IsAfter after move.time move.bin
  pub least : (bin time : ℕ) → IsLeaving notes stage worker bin time → IsAfter after time bin → IsAfter (Some (bin_at time bin)) move.time move.bin → ⊥

-- no bin of the stage leaves the worker after the place
abbrev pub NoneLeaves : Notes → ℕ → ℕ → Option TimedBin → Type 0
NoneLeaves notes stage worker after = (bin time : ℕ) → IsLeaving notes stage worker bin time → IsAfter after time bin → ⊥
