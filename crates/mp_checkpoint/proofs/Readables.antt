-- The lines of a checkpoint that fits are read as what they say.
use Rattle.std.proofs.Common.{◌≡◌, ◌⊎◌, ◌<◌, ◌≤◌, ◌++◌, ◌^◌, ℕ, List, [], ◌∷◌, inl, inr, length, length-append, sym, ap, ◌∙◌, subst, arith, lit<}
use Rattle.std.specs.Prelude.{All}
use Rattle.std.proofs.lemmas.List.{append_cancel_left}
use Rattle.std.proofs.lemmas.List.Elements.{All-head, All-tail}
use Rattle.mp_names.specs.Limits.{greatest_id, greatest_time, last_time, most_stages}
use Rattle.mp_model.specs.Facts.{SavedWake}
use Rattle.mp_opening.specs.declared.checkpoint.KeyCell.{KeyCell}
use Rattle.mp_opening.specs.Checkpoints.{CheckpointOf}
use Rattle.mp_checkpoint_laws.specs.Files.{CellStands, CheckpointFits, Format, SavedLine, WakeStands, cell_on, cells_on, file_text, first_line, last_line, line_text, lines_of, wake_on, wakes_on}
use Rattle.mp_checkpoint_laws.proofs.Lines.{ended}
use Rattle.mp_checkpoint_laws.proofs.Parted.{cells_again, wakes_again}
use Rattle.mp_checkpoint_laws.proofs.Prefixes.{fits}
use Rattle.mp_checkpoint.specs.Loose.{AreReadable, IsReadable}
use Rattle.mp_checkpoint.specs.Written.{texts_of}
use Rattle.mp_checkpoint.proofs.Pieces.{file_in_parts}

module _ {Cell : Type 0} (f : Format Cell) (t : ℕ) (few : f.stages ≤ most_stages) where
  one : (j k : ℕ) (holds : Cell ⊎ ℕ) (cs : List (KeyCell Cell)) (ws : List SavedWake) → All (CellStands f t) (cell_on j k holds ++ cs) → All (WakeStands f t) (wake_on j k holds ++ ws) → IsReadable f t j k holds × All (CellStands f t) cs × All (WakeStands f t) ws
  one j k (inl c) cs ws h i =
      let cell : KeyCell Cell = record { stage = j; key = k; cell = c } in
      let a = All-head (CellStands f t) cell cs h in
      ((omega (arith, a.0, few), fits k greatest_id a.1 (lit< tt), a.2), All-tail (CellStands f t) cell cs h, i)
  one j k (inr u) cs ws h i =
      let wake : SavedWake = record { stage = j; key = k; time = u } in
      let a = All-head (WakeStands f t) wake ws i in
      ((omega (arith, a.1), fits k greatest_id a.2 (lit< tt), fits u last_time a.4 (lit< tt)), h, All-tail (WakeStands f t) wake ws i)

  each : (lines : List (SavedLine Cell)) → All (CellStands f t) (cells_on lines) → All (WakeStands f t) (wakes_on lines) → AreReadable f t lines
  each [] h i = tt
  each (l ∷ ls) h i = let a = one l.stage l.key l.holds (cells_on ls) (wakes_on ls) h i in (a.0, each ls a.1 a.2)

pub lines_readable : {Cell : Type 0} (f : Format Cell) (c : CheckpointOf Cell) → f.stages ≤ most_stages → CheckpointFits f c → AreReadable f c.time (lines_of c.cells c.wakes)
lines_readable f c few is = each f c.time few (lines_of c.cells c.wakes) (subst (All (CellStands f c.time)) (sym (cells_again c.cells c.wakes)) is.cells) (subst (All (WakeStands f c.time)) (sym (wakes_again c.cells c.wakes)) is.wakes)

-- as many bytes as lines, or more
few_lines : {Cell : Type 0} (f : Format Cell) (lines : List (SavedLine Cell)) → length lines ≤ length (texts_of f lines)
few_lines f [] = omega arith
few_lines f (l ∷ ls) =
    let line = line_text f l.stage l.key l.holds in
    omega (arith, few_lines f ls, length-append (line ++ 10 ∷ []) (texts_of f ls), length-append line (10 ∷ []))

-- the text of a file behind its first line
abbrev pub behind_first : {Cell : Type 0} → Format Cell → List (SavedLine Cell) → List ℕ
behind_first f lines = texts_of f lines ++ (last_line (length lines) ++ 10 ∷ [])

module _ {Cell : Type 0} (f : Format Cell) (t : ℕ) (lines : List (SavedLine Cell)) (text : List ℕ) (is : text ≡ file_text f t lines) where
  pub begins_with_first : text ≡ (first_line f t ++ 10 ∷ []) ++ behind_first f lines
  begins_with_first = is ∙ sym (file_in_parts f t lines)

  pub first_ended : text ≡ first_line f t ++ 10 ∷ behind_first f lines
  first_ended = begins_with_first ∙ ended (first_line f t) (behind_first f lines)

  pub few_said : length text < 2 ^ 64 → length lines < 2 ^ 64
  few_said low =
      let a : length text ≡ length ((first_line f t ++ 10 ∷ []) ++ behind_first f lines) = ap length begins_with_first in
      omega (arith, a, low, few_lines f lines, length-append (first_line f t ++ 10 ∷ []) (behind_first f lines), length-append (texts_of f lines) (last_line (length lines) ++ 10 ∷ []))

  -- what stands behind a first line of that time
  pub rest_is : (u : ℕ) (front rest : List ℕ) → u ≡ t → front ≡ first_line f u ++ 10 ∷ [] → text ≡ front ++ rest → rest ≡ behind_first f lines
  rest_is u front rest same told e =
      append_cancel_left (first_line f t ++ 10 ∷ []) rest (behind_first f lines)
      (ap (λ (l : List ℕ). l ++ rest) (sym (told ∙ ap (λ (n : ℕ). first_line f n ++ 10 ∷ []) same)) ∙ sym e ∙ begins_with_first)

pub time_low : (t : ℕ) → t ≤ greatest_time → t < 2 ^ 64
time_low t h = fits t greatest_time h (lit< tt)
