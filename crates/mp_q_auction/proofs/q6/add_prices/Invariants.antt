-- With the prices of the other records they are as they will be.
use Rattle.std.proofs.Common.{◌≡◌, ◌++◌, drop}
use Rattle.mp_auctions.specs.Sales.{prices_of}
use Rattle.mp_q_auction.proofs.q6.add_prices.Given as goal

abbrev pub invariant-loop-rec : goal.invariant-loop-rec
invariant-loop-rec l = l.prices.items ++ prices_of (drop l.rec-index l.recs) ≡ l.initial.prices.items ++ prices_of l.recs
