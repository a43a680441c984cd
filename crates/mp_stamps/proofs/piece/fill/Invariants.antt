-- So many zeros are there, and there is room.
use Rattle.std.proofs.Common.{◌≡◌, ◌≤◌, pos, replicate}
use Rattle.std.specs.Vec.{vec_capacity}
use Rattle.mp_stamps.proofs.piece.fill.Given as goal

abbrev pub invariant-loop : goal.invariant-loop
invariant-loop l = record {
  items : l.counts.items ≡ replicate l.counter (pos 0);
  room : 1024 ≤ vec_capacity l.counts;
}
