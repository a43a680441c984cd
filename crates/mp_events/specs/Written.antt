-- The lines of events, as they are written.
use Rattle.std.specs.Prelude.{◌≡◌, ℕ, Ok, List, [], ◌∷◌, ◌++◌, All, codes}
use Rattle.std.specs.Fmt.{decimal}
use Rattle.std.specs.List.{flat_map, join_with_byte}
use Rattle.std.specs.Str.Lines.{strip_carriage_return}
use Rattle.mp_model.specs.declared.record.Event.{Event}
use Rattle.mp_model.specs.declared.value.Value.{Value}
use Rattle.mp_model.specs.declared.value.Value.TheVariants.{Person, Auction, Bid}
use Rattle.mp_model.specs.Legal.{EventsAreLegal}
use Rattle.mp_model.specs.Plain.{IsPlain}
use Rattle.mp_events.specs.Events.{events_of}

-- the fields of an event's line: its kind, its time, and its numbers and names from left to right
abbrev pub written_fields : ℕ → Value → List (List ℕ)
written_fields time (Person id name city state) = codes "P" ∷ decimal time ∷ decimal id ∷ name ∷ city ∷ state ∷ []
written_fields time (Auction id seller category reserve expires) =
    codes "A" ∷ decimal time ∷ decimal id ∷ decimal seller ∷ decimal category ∷ decimal reserve ∷ decimal expires ∷ []
written_fields time (Bid auction bidder price) = codes "B" ∷ decimal time ∷ decimal auction ∷ decimal bidder ∷ decimal price ∷ []
written_fields time _ = []

-- an event as its line: its fields, cut by `|`, and a line feed
abbrev pub line_of_event : Event → List ℕ
line_of_event event = join_with_byte 124 (written_fields event.time event.value) ++ 10 ∷ []

-- its names are plain, and the one that ends its line has no carriage return at its end
abbrev pub HasPlainNames : Value → Type 0
HasPlainNames (Person id name city state) = IsPlain name × IsPlain city × IsPlain state × (strip_carriage_return state ≡ state)
HasPlainNames _ = Unit {0}

-- the file of the lines of events that a file can say, with plain names, is read as these events
abbrev pub WrittenEventsAreRead : Type 0
WrittenEventsAreRead =
    (events : List Event) → EventsAreLegal events → All (λ event. HasPlainNames event.value) events
    → events_of (flat_map line_of_event events) ≡ Ok events
