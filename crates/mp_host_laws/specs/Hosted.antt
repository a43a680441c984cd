-- What contracts see of a host, the part of a worker that keeps the state of a stage.
use Rattle.std.specs.Prelude.{◌≡◌, ◌<◌, ℕ, suc, true, ◌==◌, ◌&&◌, ◌||◌, ◌++◌, Bool, Option, None, Some, List, [], ◌∷◌, All, filter, find, map, nat_lt, slice_get}
use Rattle.std.specs.List.{flat_map, list_any, range_with_len}
use Rattle.std.specs.Option.{option_map, option_map_or}
use Rattle.mp_bins.specs.Bins.{bin_of_key}
use Rattle.mp_bins.specs.Notes.{first_owner}
use Rattle.mp_model.specs.declared.record.Rec.{Rec}
use Rattle.mp_model.specs.Ascending.{ascending}
use Rattle.mp_model.specs.Facts.{JobFacts, QueryFacts}
use Rattle.mp_outline.specs.JobOutline.{layout_of}
use Rattle.mp_msg.specs.Contents.{IsRecordOf}
use Rattle.mp_msg.specs.States.{IsInOrder as StateIsInOrder, IsOfBin, IsStateAtFirst, cell_in}
use Rattle.mp_ordered.specs.InOrder.{IsInOrder}
use Rattle.mp_tournament.specs.Firsts.{earlier_of}
use Rattle.mp_host_laws.specs.declared.held.Held.{Held}

-- whose host it is and of which stage; the records whose group waits; the states of bins in hand; and for how many more records and for how many more bins there is room
pub record Hosted (Cell : Type 0) : Type 0 where
  pub stage : ℕ
  pub worker : ℕ
  pub records : List Rec
  pub held : List (Held Cell)
  pub room : ℕ
  pub room_for_bins : ℕ

-- records stand by time, then by key, then by tag
abbrev pub group_rank : Rec → List ℕ
group_rank r = r.time ∷ r.key ∷ r.tag.0 ∷ r.tag.1 ∷ []

-- the record is one of the group of this key at this time
abbrev pub is_of : ℕ → ℕ → Rec → Bool
is_of t k r = r.time == t && r.key == k

-- the wake is that of this key at this time
abbrev pub is_wake : ℕ → ℕ → ℕ × ℕ → Bool
is_wake t k w = w.0 == t && w.1 == k

-- the packet that brought a state, if one did, is of an earlier time
abbrev pub began_before : ℕ → Option ℕ → Bool
began_before t None = true
began_before t (Some m) = nat_lt m t

-- the bins of a stage whose first owner the worker is, ascending
abbrev pub first_bins : JobFacts → ℕ → ℕ → List ℕ
first_bins job j w = filter (λ b. first_owner (layout_of job) j b == w) (range_with_len 0 job.shape.bins)

module _ {Cell : Type 0} where
  -- the state is of this bin, and began before this time
  abbrev pub is_held_before : ℕ → ℕ → Held Cell → Bool
  is_held_before b t s = s.bin == b && began_before t s.since

  -- the first state here of a bin that began before a time
  abbrev pub state_before : Hosted Cell → ℕ → ℕ → Option (Held Cell)
  state_before h b t = find (is_held_before b t) h.held

  -- the first that began by a time
  abbrev pub state_at : Hosted Cell → ℕ → ℕ → Option (Held Cell)
  state_at h b t = state_before h b (suc t)

  -- the cell that a group of a key finds at a time: that of the state of the key's bin, of so many bins, else the fresh one
  abbrev pub cell_at : Cell → ℕ → Hosted Cell → ℕ → ℕ → Cell
  cell_at fresh bins h t k = option_map_or (λ s. cell_in fresh s.state.cells k) (state_at h (bin_of_key k bins) t) fresh

  -- the wakes of a state
  abbrev pub wakes_in : Held Cell → List (ℕ × ℕ)
  wakes_in s = s.state.wakes

  -- the records that wait of the group of this key at this time
  abbrev pub records_of : Hosted Cell → ℕ → ℕ → List Rec
  records_of h t k = filter (is_of t k) h.records

  -- a state has the wake of this key at this time
  abbrev pub has_wake_in : ℕ → ℕ → Held Cell → Bool
  has_wake_in t k s = list_any (is_wake t k) (wakes_in s)

  -- the key is to be woken at this time
  abbrev pub has_wake_at : Hosted Cell → ℕ → ℕ → Bool
  has_wake_at h t k = list_any (has_wake_in t k) h.held

  -- the group of this key at this time waits: a record of it is here, or its wake
  abbrev pub waits_at : Hosted Cell → ℕ → ℕ → Bool
  waits_at h t k = list_any (is_of t k) h.records || has_wake_at h t k

  -- the time and key of the first record, and of the first wake
  abbrev pub first_record : Hosted Cell → Option (ℕ × ℕ)
  first_record h = option_map (λ r. (r.time, r.key)) (slice_get h.records 0)

  abbrev pub first_wake_of : List (Held Cell) → Option (ℕ × ℕ)
  first_wake_of [] = None
  first_wake_of (s ∷ ss) = earlier_of (slice_get (wakes_in s) 0) (first_wake_of ss)

  -- the time and key of the first group that waits
  abbrev pub first_group : Hosted Cell → Option (ℕ × ℕ)
  first_group h = earlier_of (first_record h) (first_wake_of h.held)

  -- the wakes of all states
  abbrev pub all_wakes : Hosted Cell → List (ℕ × ℕ)
  all_wakes h = flat_map wakes_in h.held

  -- the keys of the groups that wait at a time, ascending and each once
  abbrev pub keys_at : Hosted Cell → ℕ → List ℕ
  keys_at h t = ascending (map (λ r. r.key) (filter (λ r. r.time == t) h.records) ++ map (λ w. w.1) (filter (λ w. w.0 == t) (all_wakes h)))

  -- What a host has of a bin of a stage stands in order, is of that bin, and the job has the bin
  pub record StateStands (q : QueryFacts Cell) (job : JobFacts) (j : ℕ) (s : Held Cell) : Type 0 where
    pub bin : s.bin < job.shape.bins
    pub order : StateIsInOrder s.state
    pub own : IsOfBin q job j s.bin s.state

  -- the records are those of the stage and stand in their order, and so does each state
  pub record StandsInOrder (q : QueryFacts Cell) (job : JobFacts) (h : Hosted Cell) : Type 0 where
    pub content : All (IsRecordOf q job h.stage) h.records
    pub records : IsInOrder group_rank h.records
    pub states : All (StateStands q job h.stage) h.held

  -- a host that has received and applied nothing has the bins whose first owner its worker is, each with what it begins with
  pub record IsNew (q : QueryFacts Cell) (job : JobFacts) (h : Hosted Cell) : Type 0 where
    pub records : h.records ≡ []
    pub bins : map (λ s. s.bin) h.held ≡ first_bins job h.stage h.worker
    pub first : All (λ s. s.since ≡ None) h.held
    pub states : All (λ s. IsStateAtFirst q job h.stage s.bin s.state) h.held
