use Rattle.std.proofs.Common.{arith}
use Rattle.mp_q_auction.proofs.Averages.{average_fits}
use Rattle.mp_q_auction.proofs.q4.AllPricesSales.average.Goals as goal

pub overflow_cast-result : goal.overflow_cast-result
overflow_cast-result c =
    let p = c.kept.inside in
    omega (arith, average_fits c.checked_div.result p.total p.count c.checked_div.ensures c.kept.invariant, c.unwrap_or.ensures)
