-- The file of events.
use Rattle.std.specs.Prelude.{ℕ, ◌≡◌, ◌⊎◌, Option, List, take}
use Rattle.std.specs.List.{flat_map}
use Rattle.mp_events.specs.Written.{line_of_event}
use Rattle.mp_model.specs.declared.record.Event.{Event}
use Rattle.mp_outside.specs.Files.{Files, with_file}

-- the file of the lines of these events
abbrev pub event_file : List Event → List ℕ
event_file events = flat_map line_of_event events

-- the file of this name is as it was, or holds the first bytes of this text, and nothing else has changed
abbrev pub HoldsPart : List ℕ → List ℕ → Option Files → Option Files → Type 0
HoldsPart name text old new = (new ≡ old) ⊎ ((k : ℕ) × (new ≡ with_file old name (take k text)))
