use Rattle.std.proofs.Common.{◌≡◌, ◌≤◌, ◌+◌, ◌-◌, ◌*◌, ◌^◌, drop, length, sum}
use Rattle.mp_auctions.specs.Sales.{prices_of}
use Rattle.mp_q_auction.proofs.q4.AllPricesSales.after.Given as goal

abbrev pub invariant-loop-rec : goal.invariant-loop-rec
invariant-loop-rec l = record {
  total : l.total + sum (prices_of (drop l.rec-index l.recs)) ≡ l.kept.total + sum (prices_of l.recs);
  count : l.count + length (prices_of (drop l.rec-index l.recs)) ≡ l.kept.count + length (prices_of l.recs);
  bound : l.total ≤ l.count * (2 ^ 64 - 1);
}
