-- The wakes so far are added, and there is room for the others.
use Rattle.std.proofs.Common.{◌≤◌, ◌+◌, length}
use Rattle.mp_postdated.proofs.Several.{HasAdded}
use Rattle.mp_postdated.proofs.wakes.Wakes.add_all.Given as goal

abbrev pub invariant-loop-time : goal.invariant-loop-time
invariant-loop-time l = HasAdded l.times l.key l.time-index l.initial.self.wakes l.self.wakes × (length l.times ≤ l.self.room + l.time-index)
