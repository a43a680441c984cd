-- The cells and wakes of states, one state after the other.
use Rattle.std.specs.Prelude.{ℕ, List, map}
use Rattle.std.specs.List.{flat_map}
use Rattle.std.specs.Ordering.{nat_cmp, ordering_then}
use Rattle.std.specs.declared.cmp.Ordering.{Ordering}
use Rattle.mp_model.specs.Facts.{SavedWake}
use Rattle.mp_opening.specs.declared.checkpoint.KeyCell.{KeyCell}
use Rattle.mp_msg.specs.States.{BinContent}

-- a wake of a stage, which is a time and a key
abbrev pub as_wake : ℕ → ℕ × ℕ → SavedWake
as_wake j w = record { stage = j; key = w.1; time = w.0 }

-- by the first number, and then by the second
abbrev pub pair_cmp : ℕ × ℕ → ℕ × ℕ → Ordering
pair_cmp p q = ordering_then (nat_cmp p.0 q.0) (nat_cmp p.1 q.1)

-- and then by the third
abbrev pub triple_cmp : ℕ × ℕ × ℕ → ℕ × ℕ × ℕ → Ordering
triple_cmp p q = ordering_then (ordering_then (nat_cmp p.0 q.0) (nat_cmp p.1 q.1)) (nat_cmp p.2 q.2)

-- what decides which of two wakes comes first: the stage, the key and the time
abbrev pub place_of_wake : SavedWake → ℕ × ℕ × ℕ
place_of_wake w = (w.stage, w.key, w.time)

module _ {Cell : Type 0} where
  -- a cell of a stage, beside its key
  abbrev pub as_cell : ℕ → ℕ × Cell → KeyCell Cell
  as_cell j c = record { stage = j; key = c.0; cell = c.1 }

  -- the cells of states, each with its stage
  abbrev pub cells_of : List (ℕ × BinContent Cell) → List (KeyCell Cell)
  cells_of states = flat_map (λ s. map (as_cell s.0) s.1.cells) states

  -- and their wakes
  abbrev pub wakes_of : List (ℕ × BinContent Cell) → List SavedWake
  wakes_of states = flat_map (λ s. map (as_wake s.0) s.1.wakes) states

  -- what decides which of two cells comes first: the stage and the key
  abbrev pub place_of_cell : KeyCell Cell → ℕ × ℕ
  place_of_cell c = (c.stage, c.key)
