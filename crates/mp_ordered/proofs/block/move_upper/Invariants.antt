-- So many items are moved.
use Rattle.std.proofs.Common.{◌≡◌, ◌+◌, ◌≤◌, ◌++◌, length}
use Rattle.std.specs.VecDeque.{deque_capacity}
use Rattle.mp_ordered.proofs.block.move_upper.Given as goal

abbrev pub invariant-loop-moved : goal.invariant-loop-moved
invariant-loop-moved g l = record {
  items : l.block.items ++ l.upper.items ≡ l.initial.block.items;
  left : length l.block.items + l._moved ≡ 128;
  moved : length l.upper.items ≡ l._moved;
  block : deque_capacity l.block ≡ deque_capacity l.initial.block;
  upper : deque_capacity l.initial.upper ≤ deque_capacity l.upper;
}
