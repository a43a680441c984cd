-- What notes tell of a job.
use Rattle.std.specs.Prelude.{◌≡◌, ℕ}
use Rattle.mp_names.specs.Outlines.{Outline, moves_of as moves_of_outline, owner_before as owner_of_outline}
use Rattle.mp_bins.specs.Notes.{Notes, moves_of, owner_before}

-- just before any time they give a bin the owner that the outline gives it, and their moves are the outline's
pub record TellOwners (o : Outline) (notes : Notes) : Type 0 where
  pub owners : (j b t : ℕ) → owner_before notes j b t ≡ owner_of_outline o j b t
  pub moves : moves_of notes ≡ moves_of_outline o
