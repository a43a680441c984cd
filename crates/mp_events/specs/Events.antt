-- The events of a file.
use Rattle.std.specs.Prelude.{ℕ, Result, List, []}
use Rattle.mp_events.specs.declared.refused.EventsReason.{EventsReason}
use Rattle.mp_events.specs.Lines.{event_rules}
use Rattle.mp_lines.specs.Files.{file_of}
use Rattle.mp_model.specs.declared.record.Event.{Event}

-- the events of the lines of a file that aren't blank, or the number of its first line that fails a check and the first
-- check that this line fails
abbrev pub events_of : List ℕ → Result (List Event) (ℕ × EventsReason)
events_of text = file_of event_rules [] text
