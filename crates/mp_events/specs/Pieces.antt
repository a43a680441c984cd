-- Pieces of an event file: lines as they mostly are, one after the other.
use Rattle.std.specs.Prelude.{◌≡◌, ℕ, ◌≤◌, List, [], ◌∷◌, drop, length}
use Rattle.mp_events.specs.declared.piece.Piece.{Piece}
use Rattle.mp_events.specs.Usual.{BeginsWithEvent}
use Rattle.mp_model.specs.declared.record.Event.{Event}
use Rattle.mp_names.specs.Limits.{most_events}

-- a text begins with lines that say these events, one each, and the rest is behind them
abbrev pub BeginsWithEvents : List ℕ → List Event → List ℕ → Type 0
BeginsWithEvents text [] rest = text ≡ rest
BeginsWithEvents text (event ∷ events) rest = (behind : List ℕ) × BeginsWithEvent text event behind × BeginsWithEvents behind events rest

-- in this file the events of a piece stand between its two places, and are no more than a file may have
pub record IsPieceOf (text : List ℕ) (piece : Piece) : Type 0 where
  pub ordered : piece.start ≤ piece.end
  pub within : piece.end ≤ length text
  pub begins : BeginsWithEvents (drop piece.start text) piece.events.items (drop piece.end text)
  pub few : length piece.events.items ≤ most_events
