-- What each query keeps to.
use Rattle.std.specs.Prelude.{◌≡◌, ℕ, suc, ◌<◌, ◌≤◌, ◌⊎◌, true, List, [], ◌∷◌, All, AllPairs, IsSome, length, Option, None, Some}
use Rattle.mp_names.specs.Limits.{greatest_id, greatest_time, last_time, most_bytes, most_stages}
use Rattle.mp_model.specs.declared.record.Rec.{Rec}
use Rattle.mp_model.specs.Entry.{Entry}
use Rattle.mp_model.specs.Facts.{JobFacts, QueryFacts, SavedCell, SavedState, SavedWake}
use Rattle.mp_model.specs.Legal.{EventsAreLegal, IsLegalAt}
use Rattle.mp_model.specs.Stages.{FoldsFit}
use Rattle.mp_model.specs.Tables.{table_of}

-- the times rise, the first is later than low, and none is later than high
abbrev pub RisesWithin : ℕ → ℕ → List ℕ → Type 0
RisesWithin low high [] = Unit {0}
RisesWithin low high (t ∷ ts) = (low < t) × (t ≤ high) × RisesWithin t high ts

-- a record of an event within its limits
pub record RecordIsLegal (r : Rec) : Type 0 where
  pub in_time : r.time ≤ greatest_time
  pub legal : IsLegalAt r.time r.value

-- a saved cell stands in front of another: by stage, and then by key
abbrev pub CellIsBefore : SavedCell → SavedCell → Type 0
CellIsBefore c d = (c.stage < d.stage) ⊎ ((c.stage ≡ d.stage) × (c.key < d.key))

-- and a saved wake: by stage, by key, and then by time
abbrev pub WakeIsBefore : SavedWake → SavedWake → Type 0
WakeIsBefore v w = (v.stage < w.stage) ⊎ ((v.stage ≡ w.stage) × ((v.key < w.key) ⊎ ((v.key ≡ w.key) × (v.time < w.time))))

module _ {Cell : Type 0} where
  -- there is a stage, and no more than are allowed
  abbrev pub HasStages : QueryFacts Cell → Type 0
  HasStages q = (0 < q.stages) × (q.stages ≤ most_stages)

  -- the posts of a record of an event rise, each is later than the record and not too late
  abbrev pub PostsAreLater : QueryFacts Cell → Type 0
  PostsAreLater q = (r : Rec) → RecordIsLegal r → RisesWithin r.time last_time (q.posts 0 r)

  -- a record of a later stage posts nothing
  abbrev pub LaterStagesPostNothing : QueryFacts Cell → Type 0
  LaterStagesPostNothing q = (j : ℕ) (r : Rec) → q.posts (suc j) r ≡ []

  -- each output of a stage has a key in the next one
  abbrev pub OutputsHaveKeys : QueryFacts Cell → Type 0
  OutputsHaveKeys q =
      (j : ℕ) (cell : Cell) (e : Entry) → suc j < q.stages → All (λ v. IsSome (q.key (suc j) e.time v)) (q.gives j cell e)

  -- a group has no more outputs than are foretold
  abbrev pub MostIsEnough : QueryFacts Cell → Type 0
  MostIsEnough q = (j : ℕ) (cell : Cell) (e : Entry) → length (q.gives j cell e) ≤ q.most j cell e

  -- a fresh cell stays fresh by a group that has no records, and gives nothing
  abbrev pub FreshStaysFresh : QueryFacts Cell → Type 0
  FreshStaysFresh q = (j : ℕ) (e : Entry) → e.recs ≡ [] → (q.step j (q.fresh j) e ≡ q.fresh j) × (q.gives j (q.fresh j) e ≡ [])

  -- no wake that a stage begins with is too late
  abbrev pub WakesAreInTime : QueryFacts Cell → ℕ → Type 0
  WakesAreInTime q j = All (λ w. w.0 ≤ last_time) (q.waking j)

  -- each key begins with a fresh cell, and nothing is to be woken
  abbrev pub BeginsFresh : QueryFacts Cell → Type 0
  BeginsFresh q = (q.opening ≡ (λ j k. q.fresh j)) × (q.waking ≡ (λ j. []))

  -- a cell that may be saved is the one that its text says
  abbrev pub TextsTellCells : (ℕ → Cell → List ℕ) → QueryFacts Cell → Type 0
  TextsTellCells text q = (j k t : ℕ) (c : Cell) → q.allows j k t c ≡ true → q.cell_of j (text j c) ≡ c

  -- What a query's file may say of a saved state: cells that may be saved at its time, wakes of the first stage from then on, both in order and each once
  pub record SavedStands (q : QueryFacts Cell) (saved : SavedState) : Type 0 where
    pub time : (0 < saved.time) × (saved.time ≤ greatest_time)
    pub cells : All (λ c. q.allows c.stage c.key saved.time (q.cell_of c.stage c.text) ≡ true) saved.cells
    pub cells_within : All (λ c. (c.stage < q.stages) × (c.key ≤ greatest_id)) saved.cells
    pub cells_ascend : AllPairs CellIsBefore saved.cells
    pub first : All (λ w. w.stage ≡ 0) saved.wakes
    pub wakes_within : All (λ w. w.key ≤ greatest_id) saved.wakes
    pub wakes_ascend : AllPairs WakeIsBefore saved.wakes
    pub late : All (λ w. saved.time ≤ w.time) saved.wakes
    pub in_time : All (λ w. w.time ≤ last_time) saved.wakes
    pub few : length saved.wakes ≤ most_bytes

  -- the state that a job goes on from, if there is one, is such
  abbrev pub SavedFits : QueryFacts Cell → Option SavedState → Type 0
  SavedFits q None = Unit {0}
  SavedFits q (Some saved) = SavedStands q saved

  -- whatever events a file says, and whatever state a job goes on from, the sums and counts fit their types
  abbrev pub SumsFit : (List ℕ → QueryFacts Cell) → Type 0
  SumsFit facts = (job : JobFacts) → EventsAreLegal job.events → SavedFits (facts job.values) job.from → FoldsFit (table_of facts job) job.events
