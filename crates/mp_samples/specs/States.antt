-- The state of a bin that moves.
use Rattle.std.specs.Prelude.{ℕ, [], ◌∷◌}
use Rattle.mp_msg.specs.States.{BinContent}

-- what the bin of auction 7 has just before it moves: the key is marked, and woken at 15
abbrev pub state_of_bin : BinContent ℕ
state_of_bin = record { cells = (7, 1) ∷ []; wakes = (15, 7) ∷ [] }
