-- No bar and no line feed stands before the place.
use Rattle.std.proofs.Common.{◌≡◌, ◌<◌, ℕ, false, eqb, get_or}
use Rattle.mp_events.proofs.usual.name_before.Given as goal

abbrev pub invariant-loop-place : goal.invariant-loop-place
invariant-loop-place l = (k : ℕ) → k < l.place → (eqb (get_or l.text k 0) 124 ≡ false) × (eqb (get_or l.text k 0) 10 ≡ false)
