-- The file of a checkpoint.
use Rattle.std.specs.Prelude.{◌≡◌, ◌⊎◌, ◌<◌, ◌≤◌, ◌++◌, ◌==◌, ◌&&◌, ◌||◌, ℕ, Bool, true, List, [], ◌∷◌, All, AllPairs, codes, length, map, nat_lt, if◌then◌else◌}
use Rattle.std.proofs.Common.{inl, inr}
use Rattle.std.specs.Fmt.{decimal}
use Rattle.std.specs.List.{flat_map, join_with_byte}
use Rattle.mp_names.specs.Limits.{greatest_id, greatest_time, last_time}
use Rattle.mp_model.specs.Facts.{QueryFacts, SavedWake}
use Rattle.mp_model.specs.QueryLaws.{WakeIsBefore}
use Rattle.mp_opening.specs.declared.checkpoint.KeyCell.{KeyCell}
use Rattle.mp_opening.specs.Checkpoints.{CheckpointOf, KeyIsBefore}

-- What a query says of its files: its number, the values of its rules, how many stages it has, the texts of the cells of each stage, and which may be saved
pub record Format (Cell : Type 0) : Type 0 where
  pub number : ℕ
  pub values : List ℕ
  pub stages : ℕ
  pub text : ℕ → Cell → List ℕ
  pub allows : ℕ → ℕ → ℕ → Cell → Bool

-- that of the query of a number with these values, by its table and the texts of its cells
abbrev pub format_of : {Cell : Type 0} → ℕ → List ℕ → QueryFacts Cell → (ℕ → Cell → List ℕ) → Format Cell
format_of number values q text = record { number = number; values = values; stages = q.stages; text = text; allows = q.allows }

-- Lines

-- a line between the first and the last: of a key of a stage the cell, or a time at which it is to be woken
pub record SavedLine (Cell : Type 0) : Type 0 where
  pub stage : ℕ
  pub key : ℕ
  pub holds : Cell ⊎ ℕ

-- each line and its line feed, one after the other
abbrev pub unlines : List (List ℕ) → List ℕ
unlines lines = flat_map (λ line. line ++ 10 ∷ []) lines

-- `E|N`
abbrev pub last_line : ℕ → List ℕ
last_line n = codes "E|" ++ decimal n

module _ {Cell : Type 0} where
  -- the cells of lines, in order, and the wakes
  abbrev pub cell_on : ℕ → ℕ → Cell ⊎ ℕ → List (KeyCell Cell)
  cell_on j k (inl c) = record { stage = j; key = k; cell = c } ∷ []
  cell_on j k (inr u) = []

  abbrev pub wake_on : ℕ → ℕ → Cell ⊎ ℕ → List SavedWake
  wake_on j k (inl c) = []
  wake_on j k (inr u) = record { stage = j; key = k; time = u } ∷ []

  abbrev pub cells_on : List (SavedLine Cell) → List (KeyCell Cell)
  cells_on lines = flat_map (λ l. cell_on l.stage l.key l.holds) lines

  abbrev pub wakes_on : List (SavedLine Cell) → List SavedWake
  wakes_on lines = flat_map (λ l. wake_on l.stage l.key l.holds) lines

  -- the wake stands in front of the cell: its stage and key come first
  abbrev pub is_in_front : KeyCell Cell → SavedWake → Bool
  is_in_front c w = nat_lt w.stage c.stage || w.stage == c.stage && nat_lt w.key c.key

  abbrev pub cell_line : KeyCell Cell → SavedLine Cell
  cell_line c = record { stage = c.stage; key = c.key; holds = inl c.cell }

  abbrev pub wake_line : SavedWake → SavedLine Cell
  wake_line w = record { stage = w.stage; key = w.key; holds = inr w.time }

  -- a cell behind the wakes that stand in front of it, and then the rest
  abbrev pub with_cell : KeyCell Cell → (List SavedWake → List (SavedLine Cell)) → List SavedWake → List (SavedLine Cell)
  with_cell c rest [] = cell_line c ∷ rest []
  with_cell c rest (w ∷ ws) = if is_in_front c w then wake_line w ∷ with_cell c rest ws else cell_line c ∷ rest (w ∷ ws)

  -- the lines of cells and wakes that ascend: by stage, then by key, and then the cell and the times
  abbrev pub lines_of : List (KeyCell Cell) → List SavedWake → List (SavedLine Cell)
  lines_of [] ws = map wake_line ws
  lines_of (c ∷ cs) ws = with_cell c (lines_of cs) ws

  -- `c|stage|key|CELL`, or `w|stage|key|time`
  abbrev pub line_text : Format Cell → ℕ → ℕ → Cell ⊎ ℕ → List ℕ
  line_text f j k (inl c) = join_with_byte 124 (codes "c" ∷ decimal j ∷ decimal k ∷ f.text j c ∷ [])
  line_text f j k (inr u) = join_with_byte 124 (codes "w" ∷ decimal j ∷ decimal k ∷ decimal u ∷ [])

  -- `K|1|QUERY|T`, and `|VALUE` for each value
  abbrev pub first_line : Format Cell → ℕ → List ℕ
  first_line f t = codes "K|1|q" ++ decimal f.number ++ flat_map (λ n. 124 ∷ decimal n) (t ∷ f.values)

  abbrev pub file_text : Format Cell → ℕ → List (SavedLine Cell) → List ℕ
  file_text f t lines = unlines ((first_line f t ∷ map (λ l. line_text f l.stage l.key l.holds) lines) ++ last_line (length lines) ∷ [])

  -- Files

  -- a cell of a checkpoint of this time that may be saved
  abbrev pub CellStands : Format Cell → ℕ → KeyCell Cell → Type 0
  CellStands f t s = (s.stage < f.stages) × (s.key ≤ greatest_id) × (f.allows s.stage s.key t s.cell ≡ true)

  -- a wake of it, which the first stage of q4 to q8 has alone
  abbrev pub WakeStands : Format Cell → ℕ → SavedWake → Type 0
  WakeStands f t w = (4 ≤ f.number) × (w.stage ≡ 0) × (w.key ≤ greatest_id) × (t ≤ w.time) × (w.time ≤ last_time)

  -- A checkpoint that a file may say: its cells and wakes ascend, may be saved, and are within the limits
  pub record CheckpointFits (f : Format Cell) (c : CheckpointOf Cell) : Type 0 where
    pub time : (1 ≤ c.time) × (c.time ≤ greatest_time)
    pub cells : All (CellStands f c.time) c.cells
    pub wakes : All (WakeStands f c.time) c.wakes
    pub cells_ascend : AllPairs KeyIsBefore c.cells
    pub wakes_ascend : AllPairs WakeIsBefore c.wakes

  -- The bytes are the file of a checkpoint
  pub record IsFileOf (f : Format Cell) (c : CheckpointOf Cell) (bytes : List ℕ) : Type 0 where
    pub fits : CheckpointFits f c
    pub text : bytes ≡ file_text f c.time (lines_of c.cells c.wakes)
