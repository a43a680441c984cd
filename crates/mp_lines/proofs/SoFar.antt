-- How far the lines of a file are read.
use Rattle.std.proofs.Common.{◌≡◌, ℕ, false, List, [], ◌∷◌, ◌++◌, ◌==◌, Some, Err, length, map, refl, ap, sym}
use Rattle.std.specs.List.{enumerate_from, slice_get}
use Rattle.std.proofs.Math.Dec.{eqb-suc-zero}
use Rattle.mp_lines.specs.Files.{failures_from, file_of, filled, said_after, unless_failed}
use Rattle.mp_lines.specs.declared.refused.LineRefused.{LineRefused}
use Rattle.mp_lines.specs.declared.refused.LineRefused.TheVariants.{Bad, NoMemory}
use Rattle.mp_lines.specs.Refusals.{IfBad, IfBadLine, refused_at}
use Rattle.mp_lines.specs.Rules.{LineRules}
use Rattle.mp_text.specs.declared.cutting.Line.{Line}
use Rattle.mp_text.specs.Fields.{fields_of}
use Rattle.mp_text.specs.Lines.{LinesLeft, is_blank, numbered_lines_of}
use Rattle.mp_text.specs.NextLine.{IsFirstLeft}

-- the lines that are left, each with its number
abbrev pub numbered : LinesLeft → List (ℕ × List ℕ)
numbered left = enumerate_from left.number left.lines

-- a line is blank where it has no bytes
pub is_blank-length : (bytes : List ℕ) → is_blank bytes ≡ (length bytes == 0)
is_blank-length [] = refl
is_blank-length (b ∷ bs) = sym (eqb-suc-zero (length bs))

-- the next line comes first
numbered-next : (old : LinesLeft) (line : Line) (new : LinesLeft) → IsFirstLeft old line new → numbered old ≡ (line.number, line.bytes.now) ∷ numbered new
numbered-next old line new h = rw (h.bytes, h.counted, h.number) refl

module _ {State Reason : Type 0} (rules : LineRules State Reason) (start : State) where
  -- the lines before those that are left fail no check and say this
  pub record IsReadSoFar (text : List ℕ) (state : State) (left : LinesLeft) : Type 0 where
    pub failures : failures_from rules start (filled (numbered_lines_of text)) ≡ failures_from rules state (filled (numbered left))
    pub said : said_after rules start (filled (numbered_lines_of text)) ≡ said_after rules state (filled (numbered left))

  -- the first failure of some is the first of all
  unless_failed-first : (number : ℕ) (why : Reason) (fails : List Reason) (more : List (ℕ × Reason)) (said : State)
      → slice_get fails 0 ≡ Some why → unless_failed (map (λ w. (number, w)) fails ++ more) said ≡ Err (number, why)
  unless_failed-first number why [] more said e = absurd (cc)
  unless_failed-first number why (w ∷ fails) more said e = let same : w ≡ why = cc in ap (λ v. Err (number, v)) same

  -- a line that fails a check is the first that does
  pub at_bad_line : (text : List ℕ) (state : State) (old : LinesLeft) (line : Line) (new : LinesLeft) (refused : LineRefused Reason)
      → IsReadSoFar text state old → IsFirstLeft old line new → is_blank line.bytes.now ≡ false
      → IfBad refused (λ why. slice_get (rules.failures state (fields_of line.bytes.now)) 0 ≡ Some why)
      → IfBadLine (refused_at line.number refused) (λ number why. file_of rules start text ≡ Err (number, why))
  at_bad_line text state old line new (Bad why) h next filled fails =
      rw (h.failures, numbered-next old line new next, filled)
      (unless_failed-first line.number why (rules.failures state (fields_of line.bytes.now)) _ _ fails)
  at_bad_line text state old line new NoMemory h next filled fails = tt
