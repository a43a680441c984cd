-- The names so far are parted.
use Rattle.std.proofs.Common.{◌≡◌, map, take}
use Rattle.mp_parted.specs.Parted.{parted_by}
use Rattle.mp_parted.proofs.parting.parted.Given as goal

abbrev pub invariant-loop-name : goal.invariant-loop-name
invariant-loop-name g l = map (λ v. v.items) l.parts.items ≡ parted_by (g.L.OutlineLists.outline l.lists) l.by (take l.name-index l.names)
