-- The wakes so far, with those that are left, are all.
use Rattle.std.proofs.Common.{◌≡◌, ◌++◌, map}
use Rattle.mp_collect.specs.Gathered.{as_wake}
use Rattle.mp_collect.proofs.gathered.add_wakes.Given as goal

abbrev pub invariant-loop-time : goal.invariant-loop-time
invariant-loop-time l = l.wakes.items ++ map (as_wake l.stage) l.time-iterator ≡ l.fn.wakes.items ++ map (as_wake l.stage) l.initial.time-iterator
