use Rattle.std.proofs.Common.{◌≡◌, ◌≤◌, length, drop, vec_capacity}
use Rattle.mp_ruled.specs.Dealing.{lists_of, HaveEnds}
use Rattle.mp_ruled.proofs.deal.gather.Given as goal

abbrev pub invariant-loop-worker : goal.invariant-loop-worker
invariant-loop-worker g l = record {
  room : l.workers ≤ vec_capacity l.posts;
  many : length l.posts.items ≡ l.worker;
  workers : l.workers ≡ length l.fn.rows.items;
  rows : l.rows.items ≡ drop l.worker l.fn.rows.items;
  columns : l.columns.items ≡ drop l.worker l.fn.columns.items;
  ends : HaveEnds l.fn.depth (lists_of l.fn.rows.items) (lists_of l.fn.columns.items) l.posts.items;
}
