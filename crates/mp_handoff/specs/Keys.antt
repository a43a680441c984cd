-- How many keys a bin has where it leaves.
use Rattle.std.specs.Prelude.{◌≡◌, ℕ, length}
use Rattle.mp_model.specs.Facts.{JobFacts, QueryFacts}
use Rattle.mp_msg.specs.States.{BinContent, IsStateBefore}
use Rattle.mp_handoff.specs.declared.sent.Sent.{Sent}

module _ {Cell : Type 0} where
  -- what the bin has just before the time is a state with so many cells
  abbrev pub HasKeys : QueryFacts Cell → JobFacts → ℕ → ℕ → ℕ → ℕ → Type 0
  HasKeys q job j b t keys = (s : BinContent Cell) × IsStateBefore q job j b t s × (keys ≡ length s.cells)

  -- the bin of a packet of the stage had so many keys
  abbrev pub SentHasKeys : QueryFacts Cell → JobFacts → ℕ → Sent → Type 0
  SentHasKeys q job j s = HasKeys q job j s.bin s.time s.keys
