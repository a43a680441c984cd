-- What of a query's table counts in a job: from the time that it goes on from, and before the time that it stops at.
use Rattle.std.specs.Prelude.{ℕ, ◌==◌, ◌&&◌, Bool, true, not, Option, None, Some, List, [], ◌∷◌, cond, filter, map, nat_le}
use Rattle.mp_names.specs.Outlines.{is_before_stop}
use Rattle.mp_model.specs.Facts.{JobFacts, QueryFacts, SavedCell, SavedState}

-- the time isn't before that of the saved state, if there is one
abbrev pub is_after_saved : Option SavedState → ℕ → Bool
is_after_saved None t = true
is_after_saved (Some saved) t = nat_le saved.time t

-- records and control records of this time count in the job
abbrev pub counts : JobFacts → ℕ → Bool
counts job t = is_after_saved job.from t && is_before_stop job.until t

-- the saved wakes of a stage
abbrev pub opening_wakes : Option SavedState → ℕ → List (ℕ × ℕ)
opening_wakes None j = []
opening_wakes (Some saved) j = map (λ w. (w.time, w.key)) (filter (λ w. w.stage == j) saved.wakes)

module _ {Cell : Type 0} where
  -- the cell that is saved for a key of a stage, else the fresh one
  abbrev pub cell_among : QueryFacts Cell → List SavedCell → ℕ → ℕ → Cell
  cell_among q [] j k = q.fresh j
  cell_among q (c ∷ cs) j k = cond (c.stage == j && c.key == k) (q.cell_of j c.text) (cell_among q cs j k)

  abbrev pub opening_cell : QueryFacts Cell → Option SavedState → ℕ → ℕ → Cell
  opening_cell q None j k = q.fresh j
  opening_cell q (Some saved) j k = cell_among q saved.cells j k

  -- The table of the query in a job: events of times that don't count make no record, groups from the stop time on give nothing, and a key begins with what is saved of it
  abbrev pub table_of : (List ℕ → QueryFacts Cell) → JobFacts → QueryFacts Cell
  table_of facts job = record (facts job.values) {
    key = λ j t v. cond (j == 0 && not (counts job t)) None ((facts job.values).key j t v);
    gives = λ j c e. cond (is_before_stop job.until e.time) ((facts job.values).gives j c e) [];
    opening = λ j k. opening_cell (facts job.values) job.from j k;
    waking = λ j. opening_wakes job.from j;
  }
