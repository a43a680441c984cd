-- The file of a checkpoint tells the checkpoint.
use Rattle.std.proofs.Common.{◌≡◌, ◌≢◌, ◌⊎◌, ◌<◌, ◌≤◌, ◌++◌, ◌^◌, ◌==◌, ℕ, true, List, [], ◌∷◌, inl, inr, length, refl, sym, ap, ◌∙◌, subst, arith, lit<}
use Rattle.std.specs.Prelude.{All}
use Rattle.std.specs.Fmt.{decimal}
use Rattle.std.specs.List.{flat_map}
use Rattle.std.proofs.lemmas.Bool.{both_ways, eq-eqb}
use Rattle.std.proofs.lemmas.Fmt.{decimal_injective}
use Rattle.std.proofs.lemmas.List.{append_cancel_left, append_cancel_right}
use Rattle.std.proofs.lemmas.List.Elements.{All-weaker}
use Rattle.mp_names.specs.Limits.{greatest_id, greatest_time, last_time}
use Rattle.mp_model.proofs.PlainNumbers.{plain_number}
use Rattle.mp_opening.specs.declared.checkpoint.KeyCell.{KeyCell}
use Rattle.mp_model.specs.Facts.{SavedWake}
use Rattle.mp_opening.specs.Checkpoints.{CheckpointOf}
use Rattle.mp_checkpoint_laws.specs.Files.{lines_of, CheckpointFits, Format, IsFileOf, SavedLine, cell_on, cells_on, first_line, last_line, line_text, wake_on, wakes_on}
use Rattle.mp_checkpoint_laws.specs.Laws.{FilesTellCheckpoints, FormatIsPlain, TextsTell}
use Rattle.mp_checkpoint_laws.proofs.Parted.{cells_again, wakes_again}
use Rattle.mp_checkpoint_laws.proofs.Lines.{cut_at, same_fronts, same_lines}
use Rattle.mp_checkpoint_laws.proofs.Prefixes.{PlainByte, CellFits, WakeFits, all_lines, are_lines, fits, front_lines, head_of, texts}

-- no `|` stands in a number
no_bar : (n : ℕ) → n < 2 ^ 64 → All (λ b. b ≢ 124) (decimal n)
no_bar n low = All-weaker PlainByte (λ (b : ℕ). b ≢ 124) (λ b h e. both_ways (b == 124) h.0 (eq-eqb b 124 e)) (decimal n) (plain_number n low)

-- two numbers before a `|`
one_number : (m n : ℕ) (x y : List ℕ) → m < 2 ^ 64 → n < 2 ^ 64 → decimal m ++ 124 ∷ x ≡ decimal n ++ 124 ∷ y → (m ≡ n) × (x ≡ y)
one_number m n x y h k e =
    let a = cut_at 124 (decimal m) (decimal n) x y (no_bar m h) (no_bar n k) e in
    (decimal_injective m n h k a.0, a.1)

module _ {Cell : Type 0} (f : Format Cell) (plain : FormatIsPlain f) (tells : TextsTell f) where
  -- what is known of a line
  abbrev HoldsFit : ℕ → ℕ → ℕ → Cell ⊎ ℕ → Type 0
  HoldsFit t j k (inl c) = (j < 2 ^ 64) × (k < 2 ^ 64) × (f.allows j k t c ≡ true)
  HoldsFit t j k (inr u) = (j < 2 ^ 64) × (k < 2 ^ 64) × (u < 2 ^ 64)

  parted : (t j k : ℕ) (holds : Cell ⊎ ℕ) (cs : List (KeyCell Cell)) (ws : List SavedWake) → All (CellFits f plain t) (cell_on j k holds ++ cs) → All (WakeFits f plain) (wake_on j k holds ++ ws) → HoldsFit t j k holds × All (CellFits f plain t) cs × All (WakeFits f plain) ws
  parted t j k (inl c) cs ws h i =
      let a = head_of f plain (CellFits f plain t) (record { stage = j; key = k; cell = c }) cs h in
      ((omega (arith, a.0.0, plain.stages), fits k greatest_id a.0.1 (lit< tt), a.0.2), a.1, i)
  parted t j k (inr u) cs ws h i =
      let a = head_of f plain (WakeFits f plain) (record { stage = j; key = k; time = u }) ws i in
      ((omega (arith, a.0.0), fits k greatest_id a.0.1 (lit< tt), fits u last_time a.0.2 (lit< tt)), h, a.1)

  -- a line's text tells what it holds
  line_told : (t j k i l : ℕ) (a b : Cell ⊎ ℕ) → HoldsFit t j k a → HoldsFit t i l b → line_text f j k a ≡ line_text f i l b → (j ≡ i) × (k ≡ l) × (a ≡ b)
  line_told t j k i l (inl c) (inl d) h m e =
      let behind : decimal j ++ 124 ∷ (decimal k ++ 124 ∷ f.text j c) ≡ decimal i ++ 124 ∷ (decimal l ++ 124 ∷ f.text i d) = cc in
      let a = one_number j i (decimal k ++ 124 ∷ f.text j c) (decimal l ++ 124 ∷ f.text i d) h.0 m.0 behind in
      let b = one_number k l (f.text j c) (f.text i d) h.1 m.1 a.1 in
      let there = subst (λ (n : ℕ). f.allows n k t d ≡ true) (sym a.0) (subst (λ (n : ℕ). f.allows i n t d ≡ true) (sym b.0) m.2) in
      let text : f.text j c ≡ f.text j d = b.1 ∙ ap (λ (n : ℕ). f.text n d) (sym a.0) in
      (a.0, b.0, ap inl (tells j k t c d h.2 there text))
  line_told t j k i l (inr u) (inr v) h m e =
      let behind : decimal j ++ 124 ∷ (decimal k ++ 124 ∷ decimal u) ≡ decimal i ++ 124 ∷ (decimal l ++ 124 ∷ decimal v) = cc in
      let a = one_number j i (decimal k ++ 124 ∷ decimal u) (decimal l ++ 124 ∷ decimal v) h.0 m.0 behind in
      let b = one_number k l (decimal u) (decimal v) h.1 m.1 a.1 in
      (a.0, b.0, ap inr (decimal_injective u v h.2 m.2 b.1))
  line_told t j k i l (inl c) (inr v) h m e = let a : ◌≡◌ {A = ℕ} 99 119 = cc in absurd (omega (arith, a))
  line_told t j k i l (inr u) (inl d) h m e = let a : ◌≡◌ {A = ℕ} 119 99 = cc in absurd (omega (arith, a))

  lines_told : (t : ℕ) (ls ms : List (SavedLine Cell)) → All (CellFits f plain t) (cells_on ls) → All (WakeFits f plain) (wakes_on ls) → All (CellFits f plain t) (cells_on ms) → All (WakeFits f plain) (wakes_on ms) → texts f plain ls ≡ texts f plain ms → ls ≡ ms
  lines_told t [] [] h i k l e = refl
  lines_told t [] (m ∷ ms) h i k l e = let a : 0 ≡ length (texts f plain (m ∷ ms)) = ap length e in absurd (omega (arith, a))
  lines_told t (n ∷ ls) [] h i k l e = let a : length (texts f plain (n ∷ ls)) ≡ 0 = ap length e in absurd (omega (arith, a))
  lines_told t (n ∷ ls) (m ∷ ms) h i k l e =
      let a = parted t n.stage n.key n.holds (cells_on ls) (wakes_on ls) h i in
      let b = parted t m.stage m.key m.holds (cells_on ms) (wakes_on ms) k l in
      let first : line_text f n.stage n.key n.holds ≡ line_text f m.stage m.key m.holds = cc in
      let more : texts f plain ls ≡ texts f plain ms = cc in
      let one = line_told t n.stage n.key m.stage m.key n.holds m.holds a.0 b.0 first in
      let rest = lines_told t ls ms a.1 a.2 b.1 b.2 more in
      λ x. record { stage = one.0 x; key = one.1 x; holds = one.2 x } ∷ rest x

  time_told : (t u : ℕ) → t < 2 ^ 64 → u < 2 ^ 64 → first_line f t ≡ first_line f u → t ≡ u
  time_told t u h k e =
      let values = flat_map (λ (n : ℕ). 124 ∷ decimal n) f.values in
      let whole = λ (n : ℕ). decimal f.number ++ 124 ∷ (decimal n ++ values) in
      let behind : whole t ≡ whole u = cc in
      let more : 124 ∷ (decimal t ++ values) ≡ 124 ∷ (decimal u ++ values) = append_cancel_left (decimal f.number) (124 ∷ (decimal t ++ values)) (124 ∷ (decimal u ++ values)) behind in
      let last : decimal t ++ values ≡ decimal u ++ values = cc in
      decimal_injective t u h k (append_cancel_right (decimal t) (decimal u) values last)

  wakes_fit : (c : CheckpointOf Cell) → CheckpointFits f c → All (WakeFits f plain) c.wakes
  wakes_fit c is = All-weaker (λ (w : SavedWake). (4 ≤ f.number) × (w.stage ≡ 0) × (w.key ≤ greatest_id) × (c.time ≤ w.time) × (w.time ≤ last_time)) (WakeFits f plain) (λ w h. (h.1, h.2, h.4)) c.wakes is.wakes

  pub files_tell : FilesTellCheckpoints f
  files_tell c d bytes short file other =
      let same = same_lines (all_lines f plain c bytes short file) (all_lines f plain d bytes short other) (are_lines f plain c bytes short file) (are_lines f plain d bytes short other) (sym file.text ∙ other.text) in
      let fronts : front_lines f plain c bytes short file ≡ front_lines f plain d bytes short other = same_fronts (front_lines f plain c bytes short file) (front_lines f plain d bytes short other) (last_line (length (lines_of c.cells c.wakes))) (last_line (length (lines_of d.cells d.wakes))) same in
      let first : first_line f c.time ≡ first_line f d.time = cc in
      let more : texts f plain (lines_of c.cells c.wakes) ≡ texts f plain (lines_of d.cells d.wakes) = cc in
      let time = time_told c.time d.time (fits c.time greatest_time file.fits.time.1 (lit< tt)) (fits d.time greatest_time other.fits.time.1 (lit< tt)) first in
      let cells_of : (e : CheckpointOf Cell) (is : IsFileOf f e bytes) → All (CellFits f plain e.time) (cells_on (lines_of e.cells e.wakes)) = λ e is. subst (All (CellFits f plain e.time)) (sym (cells_again e.cells e.wakes)) is.fits.cells in
      let wakes_of : (e : CheckpointOf Cell) (is : IsFileOf f e bytes) → All (WakeFits f plain) (wakes_on (lines_of e.cells e.wakes)) = λ e is. subst (All (WakeFits f plain)) (sym (wakes_again e.cells e.wakes)) (wakes_fit e is.fits) in
      let theirs = subst (λ (t : ℕ). All (CellFits f plain t) (cells_on (lines_of d.cells d.wakes))) (sym time) (cells_of d other) in
      let lines = lines_told c.time (lines_of c.cells c.wakes) (lines_of d.cells d.wakes) (cells_of c file) (wakes_of c file) theirs (wakes_of d other) more in
      let cells = sym (cells_again c.cells c.wakes) ∙ ap cells_on lines ∙ cells_again d.cells d.wakes in
      let wakes = sym (wakes_again c.cells c.wakes) ∙ ap wakes_on lines ∙ wakes_again d.cells d.wakes in
      λ x. record { time = time x; cells = cells x; wakes = wakes x }
