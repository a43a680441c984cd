-- No strict prefix of a checkpoint's file is one: its last line alone begins with an E.
use Rattle.std.proofs.Common.{◌≡◌, ◌≢◌, ◌⊎◌, ◌<◌, ◌≤◌, ◌++◌, ◌+◌, ◌^◌, ◌==◌, ℕ, false, true, List, [], ◌∷◌, inl, inr, length, length-append, map, refl, sym, ap, ◌∙◌, subst, arith, lit<}
use Rattle.std.specs.Prelude.{All}
use Rattle.std.specs.Fmt.{decimal}
use Rattle.std.specs.List.{flat_map}
use Rattle.std.proofs.lemmas.List.{length-map}
use Rattle.std.proofs.lemmas.List.Elements.{All-append, All-cons, All-head, All-nil, All-tail, All-weaker}
use Rattle.mp_names.specs.Limits.{greatest_id, greatest_time, last_time}
use Rattle.std.proofs.lemmas.Bool.{both_ways, eq-eqb}
use Rattle.mp_model.proofs.PlainNumbers.{plain_number}
use Rattle.mp_opening.specs.declared.checkpoint.KeyCell.{KeyCell}
use Rattle.mp_model.specs.Facts.{SavedWake}
use Rattle.mp_opening.specs.Checkpoints.{CheckpointOf}
use Rattle.mp_checkpoint_laws.specs.Files.{lines_of, Format, IsFileOf, SavedLine, cell_on, cells_on, first_line, last_line, line_text, unlines, wake_on, wakes_on}
use Rattle.mp_checkpoint_laws.specs.Laws.{CutFilesAreRefused, FormatIsPlain}
use Rattle.mp_checkpoint_laws.proofs.Parted.{cells_again, wakes_again}
use Rattle.mp_checkpoint_laws.proofs.Lines.{AreLines, BeginsWithE, IsLine, NoneBegins, end_is_last, lines_go_on}

abbrev NotFeed : ℕ → Type 0
NotFeed b = b ≢ 10

-- neither a bar nor a line feed
abbrev pub PlainByte : ℕ → Type 0
PlainByte b = ((b == 124) ≡ false) × ((b == 10) ≡ false)

-- a number has no line feed
pub number_line : (n : ℕ) → n < 2 ^ 64 → IsLine (decimal n)
number_line n low = All-weaker PlainByte NotFeed (λ b h e. both_ways (b == 10) h.1 (eq-eqb b 10 e)) (decimal n) (plain_number n low)

-- a byte in front
with_byte : (b : ℕ) (line : List ℕ) → b ≢ 10 → IsLine line → IsLine (b ∷ line)
with_byte b line h k = All-cons NotFeed b line h k

bar_line : (line : List ℕ) → IsLine line → IsLine (124 ∷ line)
bar_line line h = with_byte 124 line (λ e. omega (arith, e)) h

numbers_line : (ns : List ℕ) → All (λ n. n < 2 ^ 64) ns → IsLine (flat_map (λ n. 124 ∷ decimal n) ns)
numbers_line [] h = All-nil NotFeed
numbers_line (n ∷ ns) h =
    All-append NotFeed (124 ∷ decimal n) (flat_map (λ n. 124 ∷ decimal n) ns) (bar_line (decimal n) (number_line n (All-head (λ (m : ℕ). m < 2 ^ 64) n ns h))) (numbers_line ns (All-tail (λ (m : ℕ). m < 2 ^ 64) n ns h))

pub fits : (n greatest : ℕ) → n ≤ greatest → greatest < 2 ^ 64 → n < 2 ^ 64
fits n greatest h k = omega (arith, h, k)

module _ {Cell : Type 0} (f : Format Cell) (plain : FormatIsPlain f) where
  first_is_line : (t : ℕ) → t ≤ greatest_time → IsLine (first_line f t)
  first_is_line t h =
      let numbers = flat_map (λ (n : ℕ). 124 ∷ decimal n) (t ∷ f.values) in
      let name = 113 ∷ (decimal f.number ++ numbers) in
      with_byte 75 (124 ∷ 49 ∷ 124 ∷ name) (λ e. omega (arith, e)) (bar_line (49 ∷ 124 ∷ name) (with_byte 49 (124 ∷ name) (λ e. omega (arith, e)) (bar_line name (with_byte 113 (decimal f.number ++ numbers) (λ e. omega (arith, e))
      (All-append NotFeed (decimal f.number) numbers (number_line f.number plain.number) (numbers_line (t ∷ f.values) (All-cons (λ (n : ℕ). n < 2 ^ 64) t f.values (fits t greatest_time h (lit< tt)) plain.values)))))))

  pub last_is_line : (n : ℕ) → n < 2 ^ 64 → IsLine (last_line n)
  last_is_line n h = with_byte 69 (124 ∷ decimal n) (λ e. omega (arith, e)) (bar_line (decimal n) (number_line n h))

  -- what is known of a line of an allowed checkpoint
  abbrev pub HoldsPlain : ℕ → ℕ → Cell ⊎ ℕ → Type 0
  HoldsPlain j k (inl c) = (j < 2 ^ 64) × (k < 2 ^ 64) × IsLine (f.text j c)
  HoldsPlain j k (inr u) = (j < 2 ^ 64) × (k < 2 ^ 64) × (u < 2 ^ 64)

  middle : (b j k : ℕ) (more : List ℕ) → b ≢ 10 → j < 2 ^ 64 → k < 2 ^ 64 → IsLine more → IsLine (b ∷ 124 ∷ (decimal j ++ 124 ∷ (decimal k ++ 124 ∷ more)))
  middle b j k more h l m n =
      let keyed = decimal k ++ 124 ∷ more in
      let staged = decimal j ++ 124 ∷ keyed in
      with_byte b (124 ∷ staged) h (bar_line staged (All-append NotFeed (decimal j) (124 ∷ keyed) (number_line j l) (bar_line keyed (All-append NotFeed (decimal k) (124 ∷ more) (number_line k m) (bar_line more n)))))

  pub one_line : (j k : ℕ) (holds : Cell ⊎ ℕ) → HoldsPlain j k holds → IsLine (line_text f j k holds) × (BeginsWithE (line_text f j k holds) → ⊥)
  one_line j k (inl c) h = (middle 99 j k (f.text j c) (λ e. omega (arith, e)) h.0 h.1 h.2, λ e. omega (arith, e))
  one_line j k (inr u) h = (middle 119 j k (decimal u) (λ e. omega (arith, e)) h.0 h.1 (number_line u h.2), λ e. omega (arith, e))

  abbrev pub texts : List (SavedLine Cell) → List (List ℕ)
  texts lines = map (λ l. line_text f l.stage l.key l.holds) lines

  -- the lines of the cells and wakes of an allowed checkpoint
  abbrev pub CellFits : ℕ → KeyCell Cell → Type 0
  CellFits t s = (s.stage < f.stages) × (s.key ≤ greatest_id) × (f.allows s.stage s.key t s.cell ≡ true)

  abbrev pub WakeFits : SavedWake → Type 0
  WakeFits w = (w.stage ≡ 0) × (w.key ≤ greatest_id) × (w.time ≤ last_time)

  pub head_of : {X : Type 0} (P : X → Type 0) (x : X) (xs : List X) → All P (x ∷ xs) → P x × All P xs
  head_of P x xs h = (All-head P x xs h, All-tail P x xs h)

  part : (t j k : ℕ) (holds : Cell ⊎ ℕ) (cs : List (KeyCell Cell)) (ws : List SavedWake) → All (CellFits t) (cell_on j k holds ++ cs) → All WakeFits (wake_on j k holds ++ ws) → HoldsPlain j k holds × All (CellFits t) cs × All WakeFits ws
  part t j k (inl c) cs ws h i =
      let a = head_of (CellFits t) (record { stage = j; key = k; cell = c }) cs h in
      ((omega (arith, a.0.0, plain.stages), fits k greatest_id a.0.1 (lit< tt), plain.text j k t c a.0.2), a.1, i)
  part t j k (inr u) cs ws h i =
      let a = head_of WakeFits (record { stage = j; key = k; time = u }) ws i in
      ((omega (arith, a.0.0), fits k greatest_id a.0.1 (lit< tt), fits u last_time a.0.2 (lit< tt)), h, a.1)

  middle_lines : (t : ℕ) (lines : List (SavedLine Cell)) → All (CellFits t) (cells_on lines) → All WakeFits (wakes_on lines) → AreLines (texts lines) × NoneBegins (texts lines)
  middle_lines t [] h i = (tt, tt)
  middle_lines t (l ∷ ls) h i =
      let a = part t l.stage l.key l.holds (cells_on ls) (wakes_on ls) h i in
      let b = one_line l.stage l.key l.holds a.0 in
      let rest = middle_lines t ls a.1 a.2 in
      ((b.0, rest.0), (b.1, rest.1))

  -- with the last one behind them
  with_last : (ls : List (List ℕ)) (last : List ℕ) → AreLines ls → IsLine last → AreLines (ls ++ last ∷ [])
  with_last [] last h k = (k, tt)
  with_last (l ∷ ls) last h k = (h.0, with_last ls last h.1 k)

  -- a text has no more lines than bytes
  few_lines : (ls : List (List ℕ)) → length ls ≤ length (unlines ls)
  few_lines [] = omega arith
  few_lines (l ∷ ls) = omega (arith, few_lines ls, length-append (l ++ 10 ∷ []) (unlines ls), length-append l (10 ∷ []))

  -- a file's lines
  module _ (c : CheckpointOf Cell) (bytes : List ℕ) (short : length bytes < 2 ^ 64) (file : IsFileOf f c bytes) where
    abbrev pub front_lines : List (List ℕ)
    front_lines = first_line f c.time ∷ texts (lines_of c.cells c.wakes)

    abbrev pub all_lines : List (List ℕ)
    all_lines = front_lines ++ last_line (length (lines_of c.cells c.wakes)) ∷ []

    of_middle : AreLines (texts (lines_of c.cells c.wakes)) × NoneBegins (texts (lines_of c.cells c.wakes))
    of_middle =
        middle_lines c.time (lines_of c.cells c.wakes)
        (subst (All (CellFits c.time)) (sym (cells_again c.cells c.wakes)) file.fits.cells)
        (subst (All WakeFits) (sym (wakes_again c.cells c.wakes)) (All-weaker (λ (w : SavedWake). (4 ≤ f.number) × (w.stage ≡ 0) × (w.key ≤ greatest_id) × (c.time ≤ w.time) × (w.time ≤ last_time)) WakeFits (λ w h. (h.1, h.2, h.4)) c.wakes file.fits.wakes))

    pub few : length (lines_of c.cells c.wakes) < 2 ^ 64
    few =
        let a : length bytes ≡ length (unlines all_lines) = ap length file.text in
        let b = few_lines all_lines in
        let d : length all_lines ≡ length front_lines + 1 = length-append front_lines (last_line (length (lines_of c.cells c.wakes)) ∷ []) in
        let e : length (texts (lines_of c.cells c.wakes)) ≡ length (lines_of c.cells c.wakes) = length-map (lines_of c.cells c.wakes) (λ l. line_text f l.stage l.key l.holds) in
        omega (arith, a, b, d, e, short)

    pub are_lines : AreLines all_lines
    are_lines = with_last front_lines (last_line (length (lines_of c.cells c.wakes))) (first_is_line c.time file.fits.time.1, of_middle.0) (last_is_line (length (lines_of c.cells c.wakes)) few)

    none_begins : NoneBegins front_lines
    none_begins = ((λ e. omega (arith, e)), of_middle.1)

  ends_with_e : (n : ℕ) → BeginsWithE (last_line n)
  ends_with_e n = refl

  pub cut_files : CutFilesAreRefused f
  cut_files c d front rest short file some other =
      let within : length front < 2 ^ 64 = omega (arith, length-append front rest, short) in
      let on = lines_go_on (all_lines d front within other) (all_lines c (front ++ rest) short file) rest (are_lines d front within other) (are_lines c (front ++ rest) short file) (ap (λ (bs : List ℕ). bs ++ rest) (sym other.text) ∙ file.text) in
      let none = end_is_last (front_lines c (front ++ rest) short file) (front_lines d front within other) on.0 (last_line (length (lines_of c.cells c.wakes))) (last_line (length (lines_of d.cells d.wakes))) (none_begins c (front ++ rest) short file) (ends_with_e (length (lines_of d.cells d.wakes))) (none_begins d front within other) (ends_with_e (length (lines_of c.cells c.wakes))) on.1 in
      let empty : length rest ≡ 0 = ap length (on.2 ∙ ap unlines none) in
      absurd (omega (arith, empty, some))
