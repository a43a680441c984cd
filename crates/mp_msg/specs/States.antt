-- What a bin has, and what it has just before a time.
use Rattle.std.specs.Prelude.{◌≡◌, ◌≢◌, ◌↔◌, ◌⊎◌, ◌<◌, ◌≤◌, ℕ, ◌==◌, cond, true, List, [], ◌∷◌, Contains, map}
use Rattle.std.specs.BTreeMap.{insert_entry}
use Rattle.std.specs.List.Sorted.{IsStrictlySortedBy}
use Rattle.std.specs.Ordering.{nat_cmp}
use Rattle.mp_names.specs.declared.names.Name.TheVariants.{Rec}
use Rattle.mp_names.specs.declared.names.Tag.{Tag}
use Rattle.mp_names.specs.Names.{In}
use Rattle.mp_names.specs.Outlines.{is_posted}
use Rattle.mp_outline.specs.Below.{bin_of_key}
use Rattle.mp_model.specs.Facts.{JobFacts, QueryFacts}
use Rattle.mp_model.specs.Folds.{cell_before}
use Rattle.mp_model.specs.Stages.{stage_records}
use Rattle.mp_outline.specs.JobOutline.{outline_of}
use Rattle.mp_postdated.specs.Wakes.{Has, IsAscending}

-- the cells of a bin's keys, by key, and the wakes of its keys, by time and then by key
pub record BinContent (Cell : Type 0) : Type 0 where
  pub cells : List (ℕ × Cell)
  pub wakes : List (ℕ × ℕ)

-- the cells of a list by key, of each key the first
abbrev pub by_key : {Cell : Type 0} → List (ℕ × Cell) → List (ℕ × Cell)
by_key [] = []
by_key (p ∷ ps) = insert_entry nat_cmp (by_key ps) p.0 p.1

-- cells and wakes stand in their order, each key with one cell and each wake once
pub record IsInOrder {Cell : Type 0} (s : BinContent Cell) : Type 0 where
  pub cells : IsStrictlySortedBy nat_cmp (map (λ p. p.0) s.cells)
  pub wakes : IsAscending s.wakes

module _ {Cell : Type 0} where
  -- the cell that stands beside a key, else the fresh one
  abbrev pub cell_in : Cell → List (ℕ × Cell) → ℕ → Cell
  cell_in fresh [] k = fresh
  cell_in fresh (p ∷ ps) k = cond (p.0 == k) p.1 (cell_in fresh ps k)

  -- each cell that stands there is of a key of this bin, and isn't fresh; each wake is of a key of the bin
  pub record IsOfBin (q : QueryFacts Cell) (job : JobFacts) (j b : ℕ) (s : BinContent Cell) : Type 0 where
    pub cells : (k : ℕ) (c : Cell) → Contains s.cells (k, c) → (bin_of_key k job.shape.bins ≡ b) × (c ≢ q.fresh j)
    pub wakes : (u k : ℕ) → Has s.wakes u k → bin_of_key k job.shape.bins ≡ b

  -- the job begins with a wake of this key at u
  abbrev pub IsOpening : QueryFacts Cell → ℕ → ℕ → ℕ → Type 0
  IsOpening q j k u = Contains (q.waking j) (u, k)

  -- a record of this stage, key and time wakes the key at u
  abbrev pub IsPostedAt : QueryFacts Cell → JobFacts → ℕ → ℕ → ℕ → ℕ → Type 0
  IsPostedAt q job j k s u = (g : Tag) × In (Rec j s k g) ((outline_of q job).records j) × (is_posted (outline_of q job) (Rec j s k g) u ≡ true)

  -- What a bin of a stage has just before a time: of its keys the cells that aren't fresh, and the wakes from that time on that the job began with or that records before it posted
  pub record IsStateBefore (q : QueryFacts Cell) (job : JobFacts) (j b t : ℕ) (s : BinContent Cell) : Type 0 where
    pub order : IsInOrder s
    pub own : IsOfBin q job j b s
    pub cells : (k : ℕ) → bin_of_key k job.shape.bins ≡ b → cell_in (q.fresh j) s.cells k ≡ cell_before q j (stage_records q job.events j) k t
    pub wakes : (u k : ℕ) → bin_of_key k job.shape.bins ≡ b → (Has s.wakes u k ↔ ((t ≤ u) × (IsOpening q j k u ⊎ ((v : ℕ) × (v < t) × IsPostedAt q job j k v u))))

  -- What a bin of a stage begins with: of its keys the cells that aren't fresh, and the wakes that the job begins with
  pub record IsStateAtFirst (q : QueryFacts Cell) (job : JobFacts) (j b : ℕ) (s : BinContent Cell) : Type 0 where
    pub order : IsInOrder s
    pub own : IsOfBin q job j b s
    pub cells : (k : ℕ) → bin_of_key k job.shape.bins ≡ b → cell_in (q.fresh j) s.cells k ≡ q.opening j k
    pub wakes : (u k : ℕ) → bin_of_key k job.shape.bins ≡ b → (Has s.wakes u k ↔ IsOpening q j k u)
