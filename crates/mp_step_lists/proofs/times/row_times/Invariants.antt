-- The times of the rows so far.
use Rattle.std.proofs.Common.{◌≡◌, map, take}
use Rattle.mp_names.specs.Outlines.{time_of}
use Rattle.mp_step_lists.proofs.times.row_times.Given as goal

abbrev pub invariant-loop-row : goal.invariant-loop-row
invariant-loop-row g l = l.times.items ≡ map (time_of (g.L.OutlineLists.outline l.fn.lists)) (take l.row-index l.row-items)
