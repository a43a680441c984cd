use Rattle.std.proofs.Common.{◌≡◌, ◌≤◌, [], length, All, replicate, map}
use Rattle.std.specs.Vec.{vec_capacity}
use Rattle.std.specs.VecDeque.{deque_capacity}
use Rattle.mp_mailbox.proofs.plain.PlainPost.new.Given as goal

abbrev pub invariant-loop : goal.invariant-loop
invariant-loop g l = record {
  memory : l.count ≤ vec_capacity l.queues;
  many : length l.queues.items ≡ l.counter;
  room : All (λ q. l.depth ≤ deque_capacity q) l.queues.items;
  bounded : All (λ q. length q.items ≤ l.depth) l.queues.items;
  empty : map (λ q. q.items) l.queues.items ≡ replicate l.counter [];
}
