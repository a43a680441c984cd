-- The events that a file can say.
use Rattle.std.specs.Prelude.{ℕ, ◌<◌, ◌≤◌, List, All, length}
use Rattle.mp_names.specs.Limits.{greatest_id, greatest_price, greatest_time, longest_name, most_events}
use Rattle.mp_model.specs.declared.record.Event.{Event}
use Rattle.mp_model.specs.declared.value.Value.{Value}
use Rattle.mp_model.specs.declared.value.Value.TheVariants.{Person, Auction, Bid}

-- a name has one byte at least, and not too many
abbrev pub IsName : List ℕ → Type 0
IsName name = (0 < length name) × (length name ≤ longest_name)

-- a person, an auction or a bid whose numbers and names are within their limits; an auction expires after its time
abbrev pub IsLegalAt : ℕ → Value → Type 0
IsLegalAt time (Person id name city state) = (id ≤ greatest_id) × IsName name × IsName city × IsName state
IsLegalAt time (Auction id seller category reserve expires) =
    (id ≤ greatest_id) × (seller ≤ greatest_id) × (category ≤ greatest_id) × (reserve ≤ greatest_price) × (time < expires) × (expires ≤ greatest_time)
IsLegalAt time (Bid auction bidder price) = (auction ≤ greatest_id) × (bidder ≤ greatest_id) × (price ≤ greatest_price)
IsLegalAt time _ = ⊥

-- an event within its limits
pub record EventIsLegal (event : Event) : Type 0 where
  pub in_time : event.time ≤ greatest_time
  pub legal : IsLegalAt event.time event.value

-- the events that an event file can say: each within its limits, and not too many
pub record EventsAreLegal (events : List Event) : Type 0 where
  pub few : length events ≤ most_events
  pub each : All EventIsLegal events
