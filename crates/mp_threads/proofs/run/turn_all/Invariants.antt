use Rattle.std.proofs.Common.{◌≡◌, length}
use Rattle.std.specs.Prelude.{map}
use Rattle.mp_threads_place.specs.Places.{mark_at}
use Rattle.mp_threads.proofs.run.turn_all.Given as goal

abbrev pub invariant-loop-i : goal.invariant-loop-i
invariant-loop-i g l = record {
  marks : map mark_at l.places ≡ map mark_at l.fn.places;
  many : length l.places ≡ length l.fn.places;
}
