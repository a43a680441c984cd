-- The lists so far are those of the first stages.
use Rattle.std.proofs.Common.{◌≡◌, map}
use Rattle.std.specs.List.{range_with_len}
use Rattle.mp_group_lists.specs.Parts.{groups_in}
use Rattle.mp_group_lists.proofs.making.groups_by_stage.Given as goal

abbrev pub invariant-loop-stage : goal.invariant-loop-stage
invariant-loop-stage g l = map (λ parts. map (λ part. part.items) parts.items) l.groups.items ≡ map (groups_in (g.L.OutlineLists.outline l.lists)) (range_with_len 0 l.stage)
