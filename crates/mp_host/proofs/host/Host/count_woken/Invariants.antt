-- What is counted and the keys of the states that are left make the whole.
use Rattle.std.proofs.Common.{◌≡◌, ◌+◌, drop, length}
use Rattle.mp_host.specs.Waiting.{woken_keys}
use Rattle.mp_host.proofs.host.Host.count_woken.Given as goal

abbrev pub invariant-loop-at : goal.invariant-loop-at
invariant-loop-at g l = l.count + length (woken_keys l.time (drop l.at l.self.held)) ≡ length (woken_keys l.time l.self.held)
