-- The times of the wakes so far are added.
use Rattle.std.proofs.Common.{◌≡◌, ◌++◌, map, take}
use Rattle.mp_shares.proofs.times.add_first_of.Given as goal

abbrev pub invariant-loop-wake : goal.invariant-loop-wake
invariant-loop-wake l = l.times.items ≡ l.initial.times.items ++ map (λ w. w.0) (take l.wake-index l.wakes)
