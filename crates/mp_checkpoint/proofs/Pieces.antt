-- Texts that are written piece by piece, and the items of which each piece tells one.
use Rattle.std.proofs.Common.{◌≡◌, ◌++◌, ◌∷◌, ◌+◌, [], ℕ, suc, Bool, false, cond, List, Option, true, inl, inr, ◌⊎◌, arith, length, map, refl, sym, ap, ◌∙◌, append_assoc, take, drop}
use Rattle.std.specs.Prelude.{All, Err, Ok, OnErr, Result}
use Rattle.std.proofs.lemmas.Grind.{flat_map-append}
use Rattle.std.proofs.lemmas.List.{append-nil, length-map, take-append-drop}
use Rattle.std.proofs.lemmas.List.Elements.{All-cons, All-head, All-nil, All-tail, All-weaker}
use Rattle.mp_model.specs.Facts.{SavedWake}
use Rattle.mp_opening.specs.declared.checkpoint.KeyCell.{KeyCell}
use Rattle.mp_outside.specs.Sink.{grown}
use Rattle.mp_outside.proofs.SinkLemmas.{grown-grown, grown-nothing}
use Rattle.mp_checkpoint_laws.specs.Files.{CellStands, CheckpointFits, Format, SavedLine, cell_line, cell_on, cells_on, file_text, first_line, is_in_front, last_line, line_text, lines_of, unlines, wake_line, with_cell}
use Rattle.mp_checkpoint_laws.proofs.Parted.{cells_again}
use Rattle.mp_opening.specs.Checkpoints.{CheckpointOf}
use Rattle.mp_checkpoint.specs.Items.{CellsMay}
use Rattle.mp_checkpoint.specs.Written.{IsWrittenInPart, texts_of}

pub on_err : {T E : Type 0} (result : Result T E) {A : Type 0} → A → OnErr result A
on_err (Ok x) a = tt
on_err (Err e) a = a

-- nothing is written yet
pub nothing_written : (whole : List ℕ) (before : Option (List ℕ)) → IsWrittenInPart whole before before
nothing_written whole before = ([], (whole, refl), sym (grown-nothing before))

-- a part of what comes next behind what is written already
pub part_of_next : (before at now : Option (List ℕ)) (front next rest whole : List ℕ) → front ++ (next ++ rest) ≡ whole → at ≡ grown before front → IsWrittenInPart next at now → IsWrittenInPart whole before now
part_of_next before at now front next rest whole e h part =
    let more = part.1.0 in
    let parted : (front ++ part.0) ++ (more ++ rest) ≡ whole =
    append_assoc front part.0 (more ++ rest)
    ∙ ap (λ (l : List ℕ). front ++ l) (sym (append_assoc part.0 more rest) ∙ ap (λ (l : List ℕ). l ++ rest) part.1.1)
    ∙ e in
    (front ++ part.0, (more ++ rest, parted), part.2 ∙ ap (λ (w : Option (List ℕ)). grown w part.0) h ∙ grown-grown before front part.0)

-- a part of a piece
pub part_of_piece : (before at now : Option (List ℕ)) (front piece rest whole : List ℕ) (k : ℕ) → front ++ (piece ++ rest) ≡ whole → at ≡ grown before front → now ≡ grown at (take k piece) → IsWrittenInPart whole before now
part_of_piece before at now front piece rest whole k e h i = part_of_next before at now front piece rest whole e h (take k piece, (drop k piece, take-append-drop k piece), i)

module _ {Cell : Type 0} (f : Format Cell) (t : ℕ) where
  abbrev May : KeyCell Cell → Type 0
  May s = f.allows s.stage s.key t s.cell ≡ true

  parted : (j k : ℕ) (holds : Cell ⊎ ℕ) (cs : List (KeyCell Cell)) → All May (cell_on j k holds ++ cs) → All May (cell_on j k holds ++ []) × All May cs
  parted j k (inl c) cs h = (All-cons May (record { stage = j; key = k; cell = c }) [] (All-head May (record { stage = j; key = k; cell = c }) cs h) (All-nil May), All-tail May (record { stage = j; key = k; cell = c }) cs h)
  parted j k (inr u) cs h = (All-nil May, h)

  -- where the cells of lines may be saved, that of the first may, and those of the others
  pub first_may : (l : SavedLine Cell) (ls : List (SavedLine Cell)) → CellsMay f t (l ∷ ls) → CellsMay f t (l ∷ []) × CellsMay f t ls
  first_may l ls h = parted l.stage l.key l.holds (cells_on ls) h

-- the cells of the lines of a checkpoint that fits may be saved
pub all_may : {Cell : Type 0} (f : Format Cell) (c : CheckpointOf Cell) → CheckpointFits f c → CellsMay f c.time (lines_of c.cells c.wakes)
all_may f c fits = rw cells_again (All-weaker (CellStands f c.time) (λ s. f.allows s.stage s.key c.time s.cell ≡ true) (λ s h. h.2) c.cells fits.cells)

-- the text of lines begins with that of the first
pub first_text : {Cell : Type 0} (f : Format Cell) (l : SavedLine Cell) (ls : List (SavedLine Cell)) → texts_of f (l ∷ []) ++ texts_of f ls ≡ texts_of f (l ∷ ls)
first_text f l ls = ap (λ (text : List ℕ). text ++ texts_of f ls) (append-nil (line_text f l.stage l.key l.holds ++ 10 ∷ []))

-- as many lines as cells and wakes
pub count_lines : {Cell : Type 0} (cs : List (KeyCell Cell)) (ws : List SavedWake) → length (lines_of cs ws) ≡ length cs + length ws
count_lines {Cell} [] ws = length-map ws (wake_line {Cell = Cell}) ∙ omega arith
count_lines (c ∷ cs) ws = with_one c (lines_of cs) (length cs) (count_lines cs) ws
  where
    by_test : {Cell : Type 0} (b : Bool) (xs ys : List (SavedLine Cell)) (n : ℕ) → length xs ≡ n → length ys ≡ n → length (cond b xs ys) ≡ n
    by_test true xs ys n e h = e
    by_test false xs ys n e h = h

    with_one : {Cell : Type 0} (c : KeyCell Cell) (rest : List SavedWake → List (SavedLine Cell)) (n : ℕ) → ((vs : List SavedWake) → length (rest vs) ≡ n + length vs) → (ws : List SavedWake) → length (with_cell c rest ws) ≡ suc n + length ws
    with_one c rest n h [] = omega (arith, h [])
    with_one c rest n h (w ∷ ws) = by_test (is_in_front c w) (wake_line w ∷ with_cell c rest ws) (cell_line c ∷ rest (w ∷ ws)) (suc n + suc (length ws)) (omega (arith, with_one c rest n h ws)) (omega (arith, h (w ∷ ws)))

-- a file is its first line, those of its cells and wakes, and its last line
pub file_in_parts : {Cell : Type 0} (f : Format Cell) (t : ℕ) (lines : List (SavedLine Cell)) → (first_line f t ++ 10 ∷ []) ++ (texts_of f lines ++ (last_line (length lines) ++ 10 ∷ [])) ≡ file_text f t lines
file_in_parts f t lines =
    let ended = λ (line : List ℕ). line ++ 10 ∷ [] in
    let texts = map (λ l. line_text f l.stage l.key l.holds) lines in
    let last = last_line (length lines) in
    ap (λ (l : List ℕ). ended (first_line f t) ++ l) (ap (λ (l : List ℕ). unlines texts ++ l) (sym (append-nil (ended last))) ∙ sym (flat_map-append ended texts (last ∷ [])))
