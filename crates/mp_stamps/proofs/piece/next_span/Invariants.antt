-- No count before the index is other than 0.
use Rattle.std.proofs.Common.{ℕ, ◌<◌}
use Rattle.mp_stamps.specs.Rows.{IsZeroAt}
use Rattle.mp_stamps.proofs.piece.next_span.Given as goal

abbrev pub invariant-loop-index : goal.invariant-loop-index
invariant-loop-index l = (k : ℕ) → k < l.index → IsZeroAt l.counts k
