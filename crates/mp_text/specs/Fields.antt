-- The fields of a line.
use Rattle.std.specs.Prelude.{ℕ, ◌+◌, Bool, List, [], ◌∷◌, ◌==◌, length}
use Rattle.std.specs.List.{slice_split}

-- a separator, the byte `|` (124), stands between two fields
abbrev pub is_separator : ℕ → Bool
is_separator b = b == 124

-- the fields of a line, in order: what stands between its separators. A line without one is one
-- field, the empty line one empty field
unfoldable pub fields_of : List ℕ → List (List ℕ)
fields_of line = slice_split is_separator line

-- where each field ends, if the first one begins at this place and one byte stands between two
abbrev pub ends_from : ℕ → List (List ℕ) → List ℕ
ends_from place [] = []
ends_from place (field ∷ more) = (place + length field) ∷ ends_from (place + length field + 1) more
