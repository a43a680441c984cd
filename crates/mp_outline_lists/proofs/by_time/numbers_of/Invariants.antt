-- The places so far are told.
use Rattle.mp_outline_lists.specs.Packed.{AreFit, TellsPlaces}
use Rattle.mp_outline_lists.proofs.by_time.numbers_of.Given as goal

abbrev pub invariant-loop-place : goal.invariant-loop-place
invariant-loop-place l = TellsPlaces l.place l.width l.numbers.items × AreFit l.width l.numbers.items
