-- The first wakes of the bins so far are told.
use Rattle.std.proofs.Common.{◌≡◌, ◌<◌, ℕ, None, get_or, length}
use Rattle.mp_host_laws.specs.Hosted.{first_wake_of}
use Rattle.mp_host_places.specs.FirstWakes.{of_bin}
use Rattle.mp_host_places.proofs.firsts.firsts_of.Given as goal

abbrev pub invariant-loop-bin : goal.invariant-loop-bin
invariant-loop-bin g l = record {
  count : length l.firsts ≡ l.bins;
  each : (b : ℕ) → b < l.bin → get_or l.firsts b None ≡ first_wake_of (of_bin b l.held);
}
