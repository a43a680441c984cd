-- The wakes so far are added.
use Rattle.std.proofs.Common.{◌↔◌, ℕ, Contains, take}
use Rattle.mp_postdated.specs.Wakes.{Has, IsAscending}
use Rattle.mp_host_steps.proofs.wakes.wakes_of.Given as goal

abbrev pub invariant-loop-time : goal.invariant-loop-time
invariant-loop-time l = record {
  same : (u k : ℕ) → Has l.wakes.wakes u k ↔ Contains (take l.time-index l.due) (u, k);
  ascending : IsAscending l.wakes.wakes;
}
