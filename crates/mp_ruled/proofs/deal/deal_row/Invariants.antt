use Rattle.std.proofs.Common.{◌≡◌, ◌≤◌, length, vec_capacity}
use Rattle.mp_ruled.specs.Dealing.{lists_of, DealsRow}
use Rattle.mp_ruled.proofs.deal.deal_row.Given as goal

abbrev pub invariant-loop-to : goal.invariant-loop-to
invariant-loop-to g l = record {
  room : l.workers ≤ vec_capacity l.row;
  many : length l.row.items ≡ l.to;
  square : length l.columns.items ≡ l.workers;
  dealt : DealsRow l.from l.depth l.row.items (lists_of l.fn.columns.items) (lists_of l.columns.items);
}
