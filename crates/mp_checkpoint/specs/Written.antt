-- What is written of a text.
use Rattle.std.specs.Prelude.{◌≡◌, List, ℕ, Option, map}
use Rattle.mp_names.specs.Names.{IsPrefix}
use Rattle.mp_outside.specs.Sink.{grown}
use Rattle.mp_checkpoint_laws.specs.Files.{Format, SavedLine, line_text, unlines}

-- on top of what was there before, a beginning of the text stands
abbrev pub IsWrittenInPart : List ℕ → Option (List ℕ) → Option (List ℕ) → Type 0
IsWrittenInPart text before now = (front : List ℕ) × IsPrefix front text × (now ≡ grown before front)

-- the text of lines, each with its line feed
abbrev pub texts_of : {Cell : Type 0} → Format Cell → List (SavedLine Cell) → List ℕ
texts_of f lines = unlines (map (λ l. line_text f l.stage l.key l.holds) lines)
