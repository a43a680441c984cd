-- The line of an event: the checks that it fails, and the event that it says.
use Rattle.std.specs.Prelude.{ℕ, ◌+◌, ◌++◌, ◌==◌, Bool, true, Option, Some, None, List, [], ◌∷◌, drop, length, map, nat_lt}
use Rattle.mp_events.specs.declared.kinds.LineKind.{LineKind}
use Rattle.mp_events.specs.declared.kinds.LineKind.TheVariants.{Person as PersonLine, Auction as AuctionLine, Bid as BidLine}
use Rattle.mp_events.specs.declared.refused.EventsReason.{EventsReason}
use Rattle.mp_events.specs.declared.refused.EventsReason.TheVariants.{Count, Kind, Fields, Order}
use Rattle.mp_events.specs.Kinds.{kind_of, limits_of}
use Rattle.mp_events.specs.Reasons.{reason_of}
use Rattle.mp_lines.specs.Checks.{check, failures_of_fields, field_at, number_at}
use Rattle.mp_lines.specs.Limits.{failures_of_field}
use Rattle.mp_lines.specs.Rules.{LineRules}
use Rattle.mp_model.specs.declared.record.Event.{Event}
use Rattle.mp_model.specs.declared.value.Value.{Value}
use Rattle.mp_model.specs.declared.value.Value.TheVariants.{Person, Auction, Bid}
use Rattle.mp_names.specs.Limits.{most_events}

-- whether the times of a line are in order: an auction expires after its time
abbrev pub is_ordered : LineKind → List (List ℕ) → Bool
is_ordered PersonLine fields = true
is_ordered AuctionLine fields = nat_lt (number_at fields 1) (number_at fields 6)
is_ordered BidLine fields = true

-- the checks that a line of this kind fails, in their order
abbrev pub failures_of_kind : Option LineKind → List (List ℕ) → List EventsReason
failures_of_kind None fields = Kind ∷ []
failures_of_kind (Some kind) fields =
    check (length fields == length (limits_of kind) + 1) Fields
    ++ map reason_of (failures_of_fields failures_of_field (limits_of kind) (drop 1 fields))
    ++ check (is_ordered kind fields) Order

-- the checks that a line's fields fail, in their order, where so many events stand before it
abbrev pub failures_of : ℕ → List (List ℕ) → List EventsReason
failures_of before fields = check (nat_lt before most_events) Count ++ failures_of_kind (kind_of (field_at fields 0)) fields

-- what a line of this kind says
abbrev pub value_by : LineKind → List (List ℕ) → Value
value_by PersonLine fields = Person (number_at fields 2) (field_at fields 3) (field_at fields 4) (field_at fields 5)
value_by AuctionLine fields =
    Auction (number_at fields 2) (number_at fields 3) (number_at fields 4) (number_at fields 5) (number_at fields 6)
value_by BidLine fields = Bid (number_at fields 2) (number_at fields 3) (number_at fields 4)

-- the event of a line of this kind
abbrev pub event_by : List (List ℕ) → LineKind → Event
event_by fields kind = record { time = number_at fields 1; value = value_by kind fields }

-- the one event that a line of this kind says
abbrev pub events_of_kind : Option LineKind → List (List ℕ) → List Event
events_of_kind None fields = []
events_of_kind (Some kind) fields = event_by fields kind ∷ []

-- the event that a line's fields say, where they fail no check
abbrev pub events_on : List (List ℕ) → List Event
events_on fields = events_of_kind (kind_of (field_at fields 0)) fields

-- the checks that a line behind these events fails, and all events with the one that it says
abbrev pub event_rules : LineRules (List Event) EventsReason
event_rules = record { failures = λ events fields. failures_of (length events) fields; after = λ events fields. events ++ events_on fields }
