-- The lines of a text.
use Rattle.std.specs.Prelude.{ℕ, Bool, true, false, List, [], ◌∷◌, ◌==◌, map}
use Rattle.std.specs.List.{slice_split, enumerate_from}
use Rattle.std.specs.Str.Lines.{strip_carriage_return}

-- a line feed, the byte 10, ends a line
abbrev pub is_line_feed : ℕ → Bool
is_line_feed b = b == 10

-- the parts of a text, less the last one where that is empty
abbrev pub without_empty_last : List (List ℕ) → List (List ℕ)
without_empty_last [] = []
without_empty_last ([] ∷ []) = []
without_empty_last ((b ∷ bs) ∷ []) = (b ∷ bs) ∷ []
without_empty_last (part ∷ next ∷ more) = part ∷ without_empty_last (next ∷ more)

-- the lines of a text, in order: what stands between line feeds, without the one carriage return
-- (13) that may end it. Bytes after the last line feed are a line where there is at least one
unfoldable pub lines_of : List ℕ → List (List ℕ)
lines_of text = map strip_carriage_return (without_empty_last (slice_split is_line_feed text))

-- the lines with their numbers, from 1
abbrev pub numbered_lines_of : List ℕ → List (ℕ × List ℕ)
numbered_lines_of text = enumerate_from 1 (lines_of text)

-- a line is blank where it has no bytes
abbrev pub is_blank : List ℕ → Bool
is_blank [] = true
is_blank (b ∷ bs) = false

-- what is left of a text: the number of the next line, and the lines from that one on
pub record LinesLeft : Type 0 where
  pub number : ℕ
  pub lines : List (List ℕ)
