-- The wakes so far are added.
use Rattle.std.proofs.Common.{◌≡◌, ◌++◌, take}
use Rattle.mp_rows.specs.Opening.{wake_entries}
use Rattle.mp_rows.proofs.waking.add_each.Given as goal

abbrev pub invariant-loop-wake : goal.invariant-loop-wake
invariant-loop-wake l = l.entries.items ≡ l.initial.entries.items ++ wake_entries (take l.wake-index l.wakes)
