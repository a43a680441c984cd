use Rattle.std.proofs.Common.{◌≡◌, ◌≤◌, length, vec_capacity}
use Rattle.mp_ruled.specs.Dealing.{lists_of, AreDealt}
use Rattle.mp_ruled.proofs.deal.ruled_posts.Given as goal

abbrev pub invariant-loop-from : goal.invariant-loop-from
invariant-loop-from g l = record {
  room : l.workers ≤ vec_capacity l.rows;
  many : length l.rows.items ≡ l.from;
  square : length l.columns.items ≡ l.workers;
  dealt : AreDealt l.workers l.depth (lists_of l.rows.items) (lists_of l.columns.items);
}
