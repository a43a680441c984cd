-- So many records are taken out, each into its list.
use Rattle.std.proofs.Common.{◌≡◌, ◌+◌, drop}
use Rattle.std.specs.Vec.{vec_capacity}
use Rattle.mp_route.specs.Along.{going, staying}
use Rattle.mp_route.proofs.along.take_first.Given as goal

abbrev pub invariant-loop-taken : goal.invariant-loop-taken
invariant-loop-taken l = record {
  gone : l.gone.items ≡ going l.owners l.along l._taken l.initial.held.items;
  kept : l.kept.items ≡ staying l.owners l.along l._taken l.initial.held.items;
  held : l.held.items ≡ drop l._taken l.initial.held.items;
  room : l.held.room ≡ l.initial.held.room + l._taken;
  for_gone : vec_capacity l.gone ≡ vec_capacity l.initial.gone;
  for_kept : vec_capacity l.kept ≡ vec_capacity l.initial.kept;
}
