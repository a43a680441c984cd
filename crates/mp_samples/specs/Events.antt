-- Bids of 100 by bidder 1.
use Rattle.std.specs.Prelude.{ℕ}
use Rattle.mp_model.specs.declared.record.Event.{Event}
use Rattle.mp_model.specs.declared.value.Value.{Value}
use Rattle.mp_model.specs.declared.value.Value.TheVariants.{Bid}

-- a bid on auction 7
abbrev pub bid_on_seven : Value
bid_on_seven = Bid 7 1 100

-- a bid on auction 7 at a time
abbrev pub bid_at : ℕ → Event
bid_at t = record { time = t; value = bid_on_seven }
