-- The groups that the records so far make are added.
use Rattle.std.proofs.Common.{◌≡◌, ◌++◌, take}
use Rattle.std.specs.List.{flat_map}
use Rattle.mp_outline_lists.specs.Moments.{moments_made}
use Rattle.mp_outline_lists.proofs.moments.add_made.Given as goal

abbrev pub invariant-loop-place : goal.invariant-loop-place
invariant-loop-place g l = l.moments.items ≡ l.initial.moments.items ++ flat_map (moments_made (g.L.OutlineLists.outline l.lists)) (take l.place l.records)
