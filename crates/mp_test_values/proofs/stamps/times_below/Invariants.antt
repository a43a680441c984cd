-- The times so far stand each at its own index.
use Rattle.std.proofs.Common.{◌≡◌, ◌<◌, ℕ, get_or, length}
use Rattle.mp_test_values.proofs.stamps.times_below.Given as goal

abbrev pub invariant-loop-time : goal.invariant-loop-time
invariant-loop-time l = record {
  long : length l.times.items ≡ l.time;
  each : (k : ℕ) → k < l.time → get_or l.times.items k 0 ≡ k;
}
