-- The answer rows that wait to be written, and their lines.
use Rattle.std.specs.Prelude.{◌≡◌, ◌==◌, ℕ, List, [], ◌∷◌, filter, flat_map, not}
use Rattle.mp_names.specs.declared.locations.Frontier.{Frontier}
use Rattle.mp_names.specs.Frontiers.{HasPassed}
use Rattle.mp_model.specs.declared.record.Output.{Output}
use Rattle.mp_model.specs.declared.record.Place.{Place}
use Rattle.mp_model.specs.Answers.{line_of}

-- What contracts see of the rows: those that wait, in the order of their places, and how many more there is room for
pub record Unwritten : Type 0 where
  pub rows : List Output
  pub room : ℕ

-- what decides which of two rows comes first: their time, and then their tag
abbrev pub place_rank : Output → List ℕ
place_rank row = row.time ∷ row.tag.0 ∷ row.tag.1 ∷ []

-- where a row stands in the answer
abbrev pub place_of : Output → Place
place_of row = record { time = row.time; tag = row.tag }

-- the rows of a time
abbrev pub rows_at : ℕ → List Output → List Output
rows_at t rows = filter (λ row. row.time == t) rows

-- the rows of other times
abbrev pub rows_beside : ℕ → List Output → List Output
rows_beside t rows = filter (λ row. not (row.time == t)) rows

-- the lines of rows, one after the other
abbrev pub lines_of : List Output → List ℕ
lines_of rows = flat_map (λ row. line_of (place_of row, row.value)) rows

-- the first row has this time, and the frontier has passed it
abbrev pub IsDue : Frontier → List Output → ℕ → Type 0
IsDue frontier [] t = ⊥
IsDue frontier (row ∷ rows) t = (row.time ≡ t) × HasPassed frontier t
