-- What events leave at a time, and which saved states say it.
use Rattle.std.specs.Prelude.{◌≡◌, ◌≢◌, ◌↔◌, ◌⊎◌, ◌<◌, ◌≤◌, ◌==◌, ◌&&◌, ℕ, List, [], ◌∷◌, Some, All, AllPairs, Contains, cond}
use Rattle.mp_model.specs.declared.record.Event.{Event}
use Rattle.mp_model.specs.declared.record.Rec.{Rec}
use Rattle.mp_model.specs.Facts.{QueryFacts, SavedState}
use Rattle.mp_model.specs.Folds.{cell_before}
use Rattle.mp_model.specs.Stages.{stage_records}
use Rattle.mp_model.specs.QueryLaws.{WakeIsBefore}
use Rattle.mp_opening.specs.declared.checkpoint.KeyCell.{KeyCell}
use Rattle.mp_opening.specs.Checkpoints.{CheckpointOf, KeyIsBefore}
use Rattle.mp_model.specs.Tables.{opening_cell, opening_wakes}

module _ {Cell : Type 0} where
  -- from a time on the key is to be woken at u, since an earlier record of it posts u
  abbrev pub IsLeft : QueryFacts Cell → ℕ → ℕ → List Rec → ℕ → ℕ → Type 0
  IsLeft q t j rs k u = (t ≤ u) × (r : Rec) × Contains rs r × (r.key ≡ k) × (r.time < t) × Contains (q.posts j r) u

  -- A saved state says the cells just before its time, and the wakes that are left from then on, in whatever order
  pub record SaysWhatIsLeft (q : QueryFacts Cell) (events : List Event) (saved : SavedState) : Type 0 where
    pub cells : (j k : ℕ) → j < q.stages → opening_cell q (Some saved) j k ≡ cell_before q j (stage_records q events j) k saved.time
    pub wakes : (j k u : ℕ) → j < q.stages → (Contains (opening_wakes (Some saved) j) (u, k) ↔ IsLeft q saved.time j (stage_records q events j) k u)

  -- the cell that stands there for a key of a stage, else the fresh one
  abbrev pub cell_in : Cell → List (KeyCell Cell) → ℕ → ℕ → Cell
  cell_in fresh [] j k = fresh
  cell_in fresh (s ∷ ss) j k = cond (s.stage == j && s.key == k) s.cell (cell_in fresh ss j k)

  -- A checkpoint holds the cells just before its time, and the wakes that are left from then on
  pub record HoldsWhatIsLeft (q : QueryFacts Cell) (events : List Event) (c : CheckpointOf Cell) : Type 0 where
    pub cells : (j k : ℕ) → j < q.stages → cell_in (q.fresh j) c.cells j k ≡ cell_before q j (stage_records q events j) k c.time
    pub wakes : (j k u : ℕ) → j < q.stages → (Contains c.wakes (record { stage = j; key = k; time = u }) ↔ IsLeft q c.time j (stage_records q events j) k u)

  -- Its cells and wakes ascend, are of stages of the query, and no cell is fresh
  pub record StandsInOrder (q : QueryFacts Cell) (c : CheckpointOf Cell) : Type 0 where
    pub cells_ascend : AllPairs KeyIsBefore c.cells
    pub wakes_ascend : AllPairs WakeIsBefore c.wakes
    pub cells : All (λ s. (s.stage < q.stages) × (s.cell ≢ q.fresh s.stage)) c.cells
    pub wakes : All (λ w. w.stage < q.stages) c.wakes
