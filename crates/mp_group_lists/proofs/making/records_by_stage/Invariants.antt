-- The records so far are those of the first stages behind the first.
use Rattle.std.proofs.Common.{◌≡◌, map}
use Rattle.std.specs.List.{range_with_len}
use Rattle.mp_group_lists.specs.Parts.{next_records}
use Rattle.mp_group_lists.proofs.making.records_by_stage.Given as goal

abbrev pub invariant-loop-stage : goal.invariant-loop-stage
invariant-loop-stage g l = map (λ part. part.items) l.records.items ≡ map (next_records (g.L.OutlineLists.outline l.lists)) (range_with_len 0 l.stage)
