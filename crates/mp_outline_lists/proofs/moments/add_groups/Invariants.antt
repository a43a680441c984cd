-- When the groups so far are is added.
use Rattle.std.proofs.Common.{◌≡◌, ◌++◌, map, take}
use Rattle.mp_outline_lists.specs.Moments.{moment_of}
use Rattle.mp_outline_lists.proofs.moments.add_groups.Given as goal

abbrev pub invariant-loop-group : goal.invariant-loop-group
invariant-loop-group l = l.moments.items ≡ l.initial.moments.items ++ map moment_of (take l.group-index l.groups)
