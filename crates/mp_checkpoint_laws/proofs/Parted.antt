-- The lines of cells and wakes are those of the cells, and those of the wakes.
use Rattle.std.proofs.Common.{◌≡◌, Bool, true, false, cond, List, [], ◌∷◌, refl, ap}
use Rattle.mp_opening.specs.declared.checkpoint.KeyCell.{KeyCell}
use Rattle.mp_model.specs.Facts.{SavedWake}
use Rattle.mp_checkpoint_laws.specs.Files.{SavedLine, cell_line, cells_on, is_in_front, lines_of, wake_line, wakes_on, with_cell}

all_wakes : (Cell : Type 0) (ws : List SavedWake) → wakes_on {Cell = Cell} (lines_of [] ws) ≡ ws
all_wakes Cell [] = refl
all_wakes Cell (w ∷ ws) = ap (λ (vs : List SavedWake). w ∷ vs) (all_wakes Cell ws)

module _ {Cell : Type 0} where
  no_cells : (ws : List SavedWake) → cells_on {Cell = Cell} (lines_of [] ws) ≡ []
  no_cells [] = refl
  no_cells (w ∷ ws) = no_cells ws

  module _ (c : KeyCell Cell) (rest : List SavedWake → List (SavedLine Cell)) where
    cells_with : (cs : List (KeyCell Cell)) → ((vs : List SavedWake) → cells_on (rest vs) ≡ cs) → (ws : List SavedWake) → cells_on (with_cell c rest ws) ≡ c ∷ cs
    cells_with cs h [] = ap (λ (ds : List (KeyCell Cell)). c ∷ ds) (h [])
    cells_with cs h (w ∷ ws) = by_test (is_in_front c w) (cells_with cs h ws) (h (w ∷ ws))
      where
        by_test : (b : Bool) → cells_on (with_cell c rest ws) ≡ c ∷ cs → cells_on (rest (w ∷ ws)) ≡ cs → cells_on (cond b (wake_line w ∷ with_cell c rest ws) (cell_line c ∷ rest (w ∷ ws))) ≡ c ∷ cs
        by_test true e k = e
        by_test false e k = ap (λ (ds : List (KeyCell Cell)). c ∷ ds) k

    wakes_with : ((vs : List SavedWake) → wakes_on (rest vs) ≡ vs) → (ws : List SavedWake) → wakes_on (with_cell c rest ws) ≡ ws
    wakes_with h [] = h []
    wakes_with h (w ∷ ws) = by_test (is_in_front c w) (wakes_with h ws) (h (w ∷ ws))
      where
        by_test : (b : Bool) → wakes_on (with_cell c rest ws) ≡ ws → wakes_on (rest (w ∷ ws)) ≡ w ∷ ws → wakes_on (cond b (wake_line w ∷ with_cell c rest ws) (cell_line c ∷ rest (w ∷ ws))) ≡ w ∷ ws
        by_test true e k = ap (λ (vs : List SavedWake). w ∷ vs) e
        by_test false e k = k

  pub cells_again : (cs : List (KeyCell Cell)) (ws : List SavedWake) → cells_on (lines_of cs ws) ≡ cs
  cells_again [] ws = no_cells ws
  cells_again (c ∷ cs) ws = cells_with c (lines_of cs) cs (cells_again cs) ws

  pub wakes_again : (cs : List (KeyCell Cell)) (ws : List SavedWake) → wakes_on (lines_of cs ws) ≡ ws
  wakes_again [] ws = all_wakes Cell ws
  wakes_again (c ∷ cs) ws = wakes_with c (lines_of cs) (wakes_again cs) ws
