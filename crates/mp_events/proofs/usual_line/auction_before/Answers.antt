use Rattle.std.proofs.Common.{arith}
use Rattle.mp_events.proofs.UsualLines.{auction_found}
use Rattle.mp_events.proofs.usual_line.auction_before.Goals as goal

pub returns : goal.returns
returns c =
    auction_found _ _ _ _ _ _ _ _ _ _ _ _ _ c.in_ok-time.ensures c.in_ok-id.ensures c.in_ok-seller.ensures c.in_ok-category.ensures c.in_ok-reserve.ensures c.in_ok-expires.ensures (omega (arith, c.if-expires-time.false))
