-- The wakes so far that wait for nothing else are counted, and the room stays.
use Rattle.std.proofs.Common.{◌≡◌, ◌≤◌, filter, map, not}
use Rattle.std.specs.Map.Iter.{deref}
use Rattle.std.specs.Vec.{vec_capacity}
use Rattle.mp_host_states.specs.Numbers.{numbers_of}
use Rattle.mp_host.specs.Waiting.{waits_beside}
use Rattle.mp_host.proofs.host.Host.count_waiting.Given as goal

abbrev pub invariant-loop-wake : goal.invariant-loop-wake
invariant-loop-wake g l = record {
  counted : l.numbers.items ≡ numbers_of (filter (λ w. not (waits_beside l.self l.from l.to w.0 w.1)) (map deref l.yielded));
  room : vec_capacity l.initial.numbers ≤ vec_capacity l.numbers;
}
