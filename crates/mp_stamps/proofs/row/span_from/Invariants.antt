-- No piece before this one has a count other than 0.
use Rattle.std.proofs.Common.{ℕ, ◌<◌, length}
use Rattle.mp_stamps.specs.Rows.{IsZeroPiece}
use Rattle.mp_stamps.proofs.row.span_from.Given as goal

abbrev pub invariant-loop-place : goal.invariant-loop-place
invariant-loop-place l = (b : ℕ) → b < l.place → b < length l.pieces → IsZeroPiece l.pieces b
