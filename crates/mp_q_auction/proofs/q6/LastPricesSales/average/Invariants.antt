use Rattle.std.proofs.Common.{◌≡◌, ◌≤◌, ◌*◌, ◌-◌, ◌^◌, sum, take}
use Rattle.mp_q_auction.proofs.q6.LastPricesSales.average.Given as goal

abbrev pub invariant-loop-price : goal.invariant-loop-price
invariant-loop-price l = record {
  total : l.total ≡ sum (take l.price-index l.price-items);
  bound : l.total ≤ l.price-index * (2 ^ 64 - 1);
}
