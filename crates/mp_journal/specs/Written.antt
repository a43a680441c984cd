-- The lines of steps, as they are written.
use Rattle.std.specs.Prelude.{ℕ, ◌++◌, List, [], ◌∷◌, codes}
use Rattle.std.specs.Fmt.{decimal}
use Rattle.std.specs.List.{flat_map, join_with_byte}
use Rattle.mp_names.specs.declared.kinds.Kept.{Kept}
use Rattle.mp_names.specs.declared.kinds.Kind.{Kind}
use Rattle.mp_names.specs.declared.kinds.Kind.TheVariants.{Ingest, SendControl, Route, Receive, Extract, Settle, Apply, SendRow, Write, Exchange}

-- the fields of a step of this kind and version: its letter, and its number where it has one
abbrev pub fields_of_kind : Kind → ℕ → List (List ℕ)
fields_of_kind Ingest version = codes "I" ∷ []
fields_of_kind SendControl version = codes "C" ∷ []
fields_of_kind (Route j) version = codes "R" ∷ decimal j ∷ []
fields_of_kind (Receive v) version = codes "V" ∷ decimal v ∷ []
fields_of_kind (Extract j) version = codes "E" ∷ decimal j ∷ []
fields_of_kind (Settle j) version = codes "S" ∷ decimal j ∷ []
fields_of_kind (Apply j) version = codes "A" ∷ decimal j ∷ []
fields_of_kind SendRow version = codes "O" ∷ []
fields_of_kind Write version = codes "W" ∷ []
fields_of_kind Exchange version = codes "X" ∷ decimal version ∷ []

abbrev pub fields_of_step : Kept → List (List ℕ)
fields_of_step step = fields_of_kind step.kind step.version

-- a worker's step as its line: its fields, cut by `|`, and a line feed
abbrev pub line_of_step : ℕ → Kept → List ℕ
line_of_step worker step = join_with_byte 124 (codes "s" ∷ decimal worker ∷ fields_of_step step) ++ 10 ∷ []

-- the lines of a worker's steps
abbrev pub lines_of_steps : ℕ → List Kept → List ℕ
lines_of_steps worker steps = flat_map (line_of_step worker) steps
