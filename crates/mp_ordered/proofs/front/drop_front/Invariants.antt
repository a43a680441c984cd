-- So many items are gone from the front.
use Rattle.std.proofs.Common.{◌≡◌, drop}
use Rattle.std.specs.VecDeque.{deque_capacity}
use Rattle.mp_ordered.proofs.front.drop_front.Given as goal

abbrev pub invariant-loop-dropped : goal.invariant-loop-dropped
invariant-loop-dropped g l = record {
  items : l.block.items ≡ drop l._dropped l.initial.block.items;
  memory : deque_capacity l.block ≡ deque_capacity l.initial.block;
}
