-- Of the first times those at which the key doesn't wait are listed.
use Rattle.std.proofs.Common.{◌≡◌, ◌≤◌, filter, length, not, take}
use Rattle.mp_host_laws.specs.Hosted.{waits_at}
use Rattle.mp_host.proofs.host.Host.not_waiting.Given as goal

abbrev pub invariant-loop-time : goal.invariant-loop-time
invariant-loop-time g l = record {
  listed : l.list.items ≡ filter (λ u. not (waits_at l.self u l.key)) (take l.time-index l.times);
  few : length l.list.items ≤ l.time-index;
}
