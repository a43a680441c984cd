-- The control records so far are there for each worker.
use Rattle.std.proofs.Common.{◌≡◌}
use Rattle.mp_names.specs.Names.{joined_below}
use Rattle.mp_chart.specs.Entries.{entries_of}
use Rattle.mp_step_lists.proofs.Adding.{to_each}
use Rattle.mp_step_lists.proofs.controls.by_index.Given as goal

abbrev pub invariant-loop-index : goal.invariant-loop-index
invariant-loop-index g l = let o = g.L.OutlineLists.outline l.fn.lists in l.entries.items ≡ entries_of o (joined_below l.index (to_each o.workers))
