-- So many records are taken out.
use Rattle.std.proofs.Common.{◌≡◌, ◌+◌, drop, take}
use Rattle.std.specs.Vec.{vec_capacity}
use Rattle.mp_route.proofs.along.take_all.Given as goal

abbrev pub invariant-loop-taken : goal.invariant-loop-taken
invariant-loop-taken l = record {
  gone : l.gone.items ≡ take l._taken l.initial.held.items;
  held : l.held.items ≡ drop l._taken l.initial.held.items;
  room : l.held.room ≡ l.initial.held.room + l._taken;
  for_gone : vec_capacity l.gone ≡ vec_capacity l.initial.gone;
}
