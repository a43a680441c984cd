use Rattle.mp_events.proofs.UsualLines.{bid_found}
use Rattle.mp_events.proofs.usual_line.bid_before.Goals as goal

pub returns : goal.returns
returns c = bid_found _ _ _ _ _ _ _ _ _ c.in_ok-time.ensures c.in_ok-auction.ensures c.in_ok-bidder.ensures c.in_ok-price.ensures
