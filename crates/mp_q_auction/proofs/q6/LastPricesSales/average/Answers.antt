use Rattle.std.proofs.Common.{ap, arith, length}
use Rattle.mp_q_auction.proofs.Averages.{average_fits}
use Rattle.mp_q_auction.proofs.q6.LastPricesSales.average.Goals as goal

pub overflow_cast-result : goal.overflow_cast-result
overflow_cast-result c =
    omega (arith, average_fits c.checked_div.result c.loop-price.total c.len.result c.checked_div.ensures (omega (arith, ap length c.as_slice-price-items.ensures.value)))
