-- The entries of the names so far.
use Rattle.std.proofs.Common.{◌≡◌, take}
use Rattle.mp_chart.specs.Entries.{entries_of}
use Rattle.mp_step_lists.proofs.times.entries.Given as goal

abbrev pub invariant-loop-name : goal.invariant-loop-name
invariant-loop-name g l = l.entries.items ≡ entries_of (g.L.OutlineLists.outline l.lists) (take l.name-index l.names)
