-- The wakes so far are counted where they are new.
use Rattle.std.proofs.Common.{◌≡◌, ◌≤◌, drop, filter, length, map}
use Rattle.std.specs.Map.Iter.{deref}
use Rattle.mp_host.specs.Waiting.{is_new}
use Rattle.mp_host.proofs.host.Host.count_new.Given as goal

abbrev pub invariant-loop-wake : goal.invariant-loop-wake
invariant-loop-wake g l = record {
  counted : l.count ≡ length (filter (is_new l.time (drop l.next l.self.held)) (map deref l.yielded));
  few : l.count ≤ length l.yielded;
}
