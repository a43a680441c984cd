-- The times of the stages so far.
use Rattle.std.proofs.Common.{◌≡◌, map}
use Rattle.std.specs.List.{range_with_len}
use Rattle.mp_names.specs.Outlines.{control_times}
use Rattle.mp_chart.specs.Entries.{entries_of}
use Rattle.mp_step_lists.proofs.times.control_times.Given as goal

abbrev pub invariant-loop-stage : goal.invariant-loop-stage
invariant-loop-stage g l = let o = g.L.OutlineLists.outline l.lists in map (λ list. list.items) l.times.items ≡ map (λ j. entries_of o (control_times o j)) (range_with_len 0 l.stage)
