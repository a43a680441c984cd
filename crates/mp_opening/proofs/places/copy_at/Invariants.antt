-- The cells at the places so far are copied.
use Rattle.std.proofs.Common.{◌≡◌, Some, map, take}
use Rattle.mp_opening.specs.ByBin.{cell_at}
use Rattle.mp_opening.proofs.places.copy_at.Given as goal

abbrev pub invariant-loop-place : goal.invariant-loop-place
invariant-loop-place g l = map (cell_at l.cells) (take l.place-index l.places) ≡ map Some l.copies.items
