-- Timelines and folds, each key by itself: what a stage makes of its records.
use Rattle.std.specs.Prelude.{ℕ, ◌≡◌, ◌==◌, ◌++◌, ◌||◌, Bool, true, List, [], ◌∷◌, filter, fold, map, nat_lt, take_while}
use Rattle.std.specs.List.{enumerate_from, flat_map, list_any}
use Rattle.mp_model.specs.declared.record.Output.{Output}
use Rattle.mp_model.specs.declared.record.Rec.{Rec}
use Rattle.mp_model.specs.declared.value.Value.{Value}
use Rattle.mp_model.specs.Ascending.{ascending}
use Rattle.mp_model.specs.Entry.{Entry}
use Rattle.mp_model.specs.Facts.{QueryFacts}

-- the records of a key
abbrev pub of_key : ℕ → List Rec → List Rec
of_key k rs = filter (λ r. r.key == k) rs

-- the records of a time
abbrev pub at_time : ℕ → List Rec → List Rec
at_time t rs = filter (λ r. r.time == t) rs

-- the keys of records, ascending and each once
abbrev pub keys_of : List Rec → List ℕ
keys_of rs = ascending (map (λ r. r.key) rs)

-- the outputs of the group of a key at a time: the first has tag (key, 0), the next (key, 1), and so on
abbrev pub outputs_at : ℕ → ℕ → List Value → List Output
outputs_at t k values = map (λ p. record { time = t; tag = record { 0 = k; 1 = p.0 }; value = p.1 }) (enumerate_from 0 values)

module _ {Cell : Type 0} where
  -- the times of records and of their posts
  abbrev pub times_in : QueryFacts Cell → ℕ → List Rec → List ℕ
  times_in q j rs = flat_map (λ r. r.time ∷ q.posts j r) rs

  -- the times at which a stage is to wake a key from the beginning
  abbrev pub waking_of : QueryFacts Cell → ℕ → ℕ → List ℕ
  waking_of q j k = map (λ w. w.0) (filter (λ w. w.1 == k) (q.waking j))

  -- the key, whose records these are, is to be woken at this time from the beginning, or one of the records posts it
  abbrev pub is_woken : QueryFacts Cell → ℕ → ℕ → List Rec → ℕ → Bool
  is_woken q j k rs t = list_any (λ u. u == t) (waking_of q j k) || list_any (λ r. list_any (λ u. u == t) (q.posts j r)) rs

  -- the group at a time of a key, whose records these are
  abbrev pub entry_at : QueryFacts Cell → ℕ → ℕ → List Rec → ℕ → Entry
  entry_at q j k own t = record { time = t; key = k; woken = is_woken q j k own t; recs = at_time t own }

  -- the groups of a key, whose records these are, by time
  abbrev pub entries_of : QueryFacts Cell → ℕ → ℕ → List Rec → List Entry
  entries_of q j k own = map (entry_at q j k own) (ascending (waking_of q j k ++ times_in q j own))

  -- the groups of a key among the records of a stage, by time
  abbrev pub timeline : QueryFacts Cell → ℕ → ℕ → List Rec → List Entry
  timeline q j k rs = entries_of q j k (of_key k rs)

  -- the cell that these groups make of a cell
  abbrev pub fold_of : QueryFacts Cell → ℕ → Cell → List Entry → Cell
  fold_of q j cell entries = fold (q.step j) cell entries

  -- the cell of a key just before a time
  abbrev pub cell_before : QueryFacts Cell → ℕ → List Rec → ℕ → ℕ → Cell
  cell_before q j rs k t = fold_of q j (q.opening j k) (take_while (λ e. nat_lt e.time t) (timeline q j k rs))

  -- what these groups give, one after the other
  abbrev pub outputs_along : QueryFacts Cell → ℕ → Cell → List Entry → List Output
  outputs_along q j cell [] = []
  outputs_along q j cell (e ∷ es) = outputs_at e.time e.key (q.gives j cell e) ++ outputs_along q j (q.step j cell e) es

  -- what the groups of a key give
  abbrev pub outputs_of : QueryFacts Cell → ℕ → List Rec → ℕ → List Output
  outputs_of q j rs k = outputs_along q j (q.opening j k) (timeline q j k rs)

  -- the keys of a stage's wakes and records, ascending and each once
  abbrev pub keys_in : QueryFacts Cell → ℕ → List Rec → List ℕ
  keys_in q j rs = ascending (map (λ w. w.1) (q.waking j) ++ map (λ r. r.key) rs)

  -- what a stage gives, key by key
  abbrev pub stage_outputs : QueryFacts Cell → ℕ → List Rec → List Output
  stage_outputs q j rs = flat_map (outputs_of q j rs) (keys_in q j rs)

  -- the sums and counts of each cell with its next group fit their types
  abbrev pub FitsAlong : QueryFacts Cell → ℕ → Cell → List Entry → Type 0
  FitsAlong q j cell [] = Unit {0}
  FitsAlong q j cell (e ∷ es) = (q.fits j cell e ≡ true) × FitsAlong q j (q.step j cell e) es
