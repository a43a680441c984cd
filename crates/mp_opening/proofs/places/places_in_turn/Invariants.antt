-- The cells so far have their places.
use Rattle.std.proofs.Common.{◌≡◌, take}
use Rattle.mp_opening.specs.ByBin.{places_from}
use Rattle.mp_opening.proofs.places.places_in_turn.Given as goal

abbrev pub invariant-loop-place : goal.invariant-loop-place
invariant-loop-place g l = l.places.items ≡ places_from l.bins 0 (take l.place l.cells)
