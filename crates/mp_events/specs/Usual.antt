-- Lines as they mostly are: a line feed ends each, and its numbers have few digits.
use Rattle.std.specs.Prelude.{◌≡◌, ℕ, ◌+◌, ◌<◌, ◌≤◌, ◌++◌, true, false, List, [], ◌∷◌, All, length}
use Rattle.std.specs.List.{enumerate_from}
use Rattle.std.specs.Str.Lines.{strip_carriage_return}
use Rattle.mp_events.specs.declared.refused.EventsReason.{EventsReason}
use Rattle.mp_events.specs.Lines.{event_rules, events_on, failures_of}
use Rattle.mp_lines.specs.Files.{failures_from, filled, said_after}
use Rattle.mp_lines.specs.declared.refused.FileRefused.{FileRefused}
use Rattle.mp_lines.specs.declared.refused.FileRefused.TheVariants.{BadLine, NoMemory}
use Rattle.mp_model.specs.declared.record.Event.{Event}
use Rattle.mp_model.specs.Legal.{IsName}
use Rattle.mp_model.specs.Plain.{IsPlain}
use Rattle.mp_names.specs.Limits.{most_events}
use Rattle.mp_text.specs.Fields.{fields_of}
use Rattle.mp_text.specs.Lines.{is_blank, is_line_feed, lines_of, numbered_lines_of}
use Rattle.mp_text.specs.Numbers.{is_number, value_of}

-- a text begins with digits that are worth so much, which is within the limit, and a byte that ends them
pub record BeginsWithNumber (text : List ℕ) (end greatest value : ℕ) (rest : List ℕ) : Type 0 where
  pub digits : List ℕ
  pub is : text ≡ digits ++ end ∷ rest
  pub number : is_number digits ≡ true
  pub worth : value_of digits ≡ value
  pub within : value ≤ greatest

-- a text begins with a name that can end a line, and a byte that ends it
pub record BeginsWithName (text : List ℕ) (end : ℕ) (name rest : List ℕ) : Type 0 where
  pub is : text ≡ name ++ end ∷ rest
  pub plain : IsPlain name
  pub named : IsName name
  pub stays : strip_carriage_return name ≡ name

-- a text begins with a line that says this event and fails no check, unless too many stand before it
pub record BeginsWithEvent (text : List ℕ) (event : Event) (rest : List ℕ) : Type 0 where
  pub line : List ℕ
  pub is : text ≡ line ++ 10 ∷ rest
  pub alone : All (λ b. is_line_feed b ≡ false) line
  pub stays : strip_carriage_return line ≡ line
  pub filled : is_blank line ≡ false
  pub fails : (before : ℕ) → before < most_events → failures_of before (fields_of line) ≡ []
  pub says : events_on (fields_of line) ≡ event ∷ []

-- the first lines of a text, as many as these events, fail no check and say these, and the rest is behind them
pub record AreReadFirst (text : List ℕ) (events : List Event) (rest : List ℕ) : Type 0 where
  pub failures :
      failures_from event_rules [] (filled (numbered_lines_of text))
      ≡ failures_from event_rules events (filled (enumerate_from (length events + 1) (lines_of rest)))
  pub said :
      said_after event_rules [] (filled (numbered_lines_of text))
      ≡ said_after event_rules events (filled (enumerate_from (length events + 1) (lines_of rest)))
  pub few : length events ≤ most_events
  pub shorter : length events + length rest ≤ length text

-- a refusal of what is behind so many lines, as one of the whole text
abbrev pub refused_behind : ℕ → FileRefused EventsReason → FileRefused EventsReason
refused_behind lines (BadLine line why) = BadLine (line + lines) why
refused_behind lines NoMemory = NoMemory
