use Rattle.std.proofs.Common.{◌≡◌, ◌≤◌, [], length, replicate, vec_capacity}
use Rattle.mp_ruled.specs.Dealing.{lists_of}
use Rattle.mp_ruled.proofs.deal.no_columns.Given as goal

abbrev pub invariant-loop : goal.invariant-loop
invariant-loop g l = record {
  room : l.workers ≤ vec_capacity l.columns;
  many : length l.columns.items ≡ l.counter;
  empty : lists_of l.columns.items ≡ replicate l.counter [];
}
