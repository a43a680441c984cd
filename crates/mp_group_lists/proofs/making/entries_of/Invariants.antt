-- The entries so far are those of the first names.
use Rattle.std.proofs.Common.{◌≡◌, take}
use Rattle.mp_chart.specs.Entries.{entries_of}
use Rattle.mp_group_lists.proofs.making.entries_of.Given as goal

abbrev pub invariant-loop-name : goal.invariant-loop-name
invariant-loop-name g l = l.entries.items ≡ entries_of (g.L.OutlineLists.outline l.lists) (take l.name-index l.names)
