-- Names that stand in a line as they are.
use Rattle.std.specs.Prelude.{◌≡◌, ℕ, ◌==◌, false, List, All}
use Rattle.mp_model.specs.declared.record.Event.{Event}
use Rattle.mp_model.specs.declared.value.Value.{Value}
use Rattle.mp_model.specs.declared.value.Value.TheVariants.{Person}

-- a name without a bar, the byte `|` (124), and without a line feed, the byte 10
abbrev pub IsPlain : List ℕ → Type 0
IsPlain name = All (λ b. ((b == 124) ≡ false) × ((b == 10) ≡ false)) name

-- the names that the value of an event has are plain
abbrev pub NamesArePlain : Value → Type 0
NamesArePlain (Person id name city state) = IsPlain name × IsPlain city × IsPlain state
NamesArePlain _ = Unit {0}

-- the names of all these events are
abbrev pub EventsArePlain : List Event → Type 0
EventsArePlain events = All (λ event. NamesArePlain event.value) events
