-- The bins so far have their usual owners.
use Rattle.std.proofs.Common.{◌≡◌, ◌<◌, ◌%◌, ℕ, length}
use Rattle.std.specs.Prelude.{slice_index_or}
use Rattle.mp_layout.proofs.firsts.usual_owners.Given as goal

abbrev pub invariant-loop-place : goal.invariant-loop-place
invariant-loop-place l = (length l.owners.items ≡ l.place) × ((i : ℕ) → i < l.place → slice_index_or l.owners.items i 0 ≡ i % l.shape.bins % l.shape.workers)
