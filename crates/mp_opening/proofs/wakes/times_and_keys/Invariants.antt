-- The wakes so far are there.
use Rattle.std.proofs.Common.{◌≡◌, map, take}
use Rattle.mp_opening.specs.ByBin.{time_and_key}
use Rattle.mp_opening.proofs.wakes.times_and_keys.Given as goal

abbrev pub invariant-loop-wake : goal.invariant-loop-wake
invariant-loop-wake l = l.own.items ≡ map time_and_key (take l.wake-index l.wakes)
