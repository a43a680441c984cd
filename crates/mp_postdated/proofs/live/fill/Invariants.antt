-- The wakes so far are in the set, and there is room for the others.
use Rattle.std.proofs.Common.{◌≤◌, ◌+◌}
use Rattle.std.specs.HashSet.{spare}
use Rattle.mp_postdated.proofs.Filled.{HasFirst}
use Rattle.mp_postdated.proofs.live.fill.Given as goal

abbrev pub invariant-loop-wake : goal.invariant-loop-wake
invariant-loop-wake l = record {
  first : HasFirst l.wakes l.wake-index l.live.keys;
  room : spare l.initial.live ≤ spare l.live + l.wake-index;
}
