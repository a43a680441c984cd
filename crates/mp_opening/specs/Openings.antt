-- What a job goes on from, by its bins.
use Rattle.std.specs.Prelude.{◌≡◌, ◌≢◌, ◌↔◌, ◌⊎◌, ◌<◌, ◌≤◌, ℕ, true, List, All, AllPairs, Contains}
use Rattle.mp_names.specs.Limits.{greatest_id, greatest_time, last_time}
use Rattle.mp_layout.specs.Bins.{bin_of_key}
use Rattle.mp_model.specs.Facts.{QueryFacts, SavedWake}
use Rattle.mp_model.specs.QueryLaws.{WakeIsBefore}
use Rattle.mp_opening.specs.declared.checkpoint.KeyCell.{KeyCell}
use Rattle.mp_opening.specs.Checkpoints.{CheckpointOf, KeyIsBefore}

-- the checkpoint that a job goes on from, and how many bins each of its stages has
pub record OpeningOf (Cell : Type 0) : Type 0 where
  pub bins : ℕ
  pub from : CheckpointOf Cell

-- a wake of the first stage, from a time on
pub record WakeMayOpen (t : ℕ) (w : SavedWake) : Type 0 where
  pub first : w.stage ≡ 0
  pub key : w.key ≤ greatest_id
  pub late : t ≤ w.time
  pub in_time : w.time ≤ last_time

-- the first wake is of an earlier time, or of that time and a lesser key
abbrev pub ComesEarlier : ℕ × ℕ → ℕ × ℕ → Type 0
ComesEarlier v w = (v.0 < w.0) ⊎ ((v.0 ≡ w.0) × (v.1 < w.1))

module _ {Cell : Type 0} where
  -- a cell that may be saved at a time
  pub record CellMayOpen (q : QueryFacts Cell) (t : ℕ) (c : KeyCell Cell) : Type 0 where
    pub stage : c.stage < q.stages
    pub key : c.key ≤ greatest_id
    pub allowed : q.allows c.stage c.key t c.cell ≡ true

  -- A job may go on from this checkpoint: its cells may be saved, its wakes are of the first stage and from its time on, and both stand in order
  pub record MayOpen (q : QueryFacts Cell) (c : CheckpointOf Cell) : Type 0 where
    pub time : (0 < c.time) × (c.time ≤ greatest_time)
    pub cells : All (CellMayOpen q c.time) c.cells
    pub cells_ascend : AllPairs KeyIsBefore c.cells
    pub wakes : All (WakeMayOpen c.time) c.wakes
    pub wakes_ascend : AllPairs WakeIsBefore c.wakes

  -- these are the cells of the checkpoint whose keys are in the bin of the stage, each once
  pub record AreCellsOf (o : OpeningOf Cell) (j b : ℕ) (cells : List (ℕ × Cell)) : Type 0 where
    pub are : (k : ℕ) (c : Cell) → (Contains cells (k, c) ↔ (Contains o.from.cells (record { stage = j; key = k; cell = c }) × (bin_of_key k o.bins ≡ b)))
    pub once : AllPairs (λ c d. c.0 ≢ d.0) cells

  -- these are the wakes of the checkpoint, each a time and a key, whose keys are in the bin of the stage, ascending
  pub record AreWakesOf (o : OpeningOf Cell) (j b : ℕ) (wakes : List (ℕ × ℕ)) : Type 0 where
    pub are : (u k : ℕ) → (Contains wakes (u, k) ↔ (Contains o.from.wakes (record { stage = j; key = k; time = u }) × (bin_of_key k o.bins ≡ b)))
    pub ascend : AllPairs ComesEarlier wakes
