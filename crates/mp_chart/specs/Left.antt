-- How much work is left, by location and time.
use Rattle.std.specs.Prelude.{◌≡◌, ℕ, ◌<◌, ◌≤◌, ◌^◌, ◌&&◌, ◌==◌, cond, List, ℤ, pos, negsuc, Contains}
use Rattle.std.specs.List.{sum_by}
use Rattle.mp_names.specs.declared.locations.Loc.{Loc}
use Rattle.mp_names.specs.Locations.{IsLocation}
use Rattle.mp_stamps.specs.Counts.{CountTable, same_loc, count_in, IsCounted}
use Rattle.mp_chart.specs.declared.work.Work.{Work}

-- what contracts see of numbers of work left: of how many stages the job is, and the counts
pub record Left : Type 0 where
  pub stages : ℕ
  pub counts : CountTable

-- how much of the work is at this location and time
abbrev pub part_at : Loc → ℕ → Work → ℕ
part_at a t work = cond (same_loc work.loc a && work.time == t) work.count 0

-- and of all of these
abbrev pub work_at : Loc → ℕ → List Work → ℕ
work_at a t works = sum_by (part_at a t) works

-- the work is at a location and a time of the job
abbrev pub IsWorkOf : ℕ → List ℕ → Work → Type 0
IsWorkOf stages times work = IsLocation stages work.loc × Contains times work.time

-- a count that isn't negative, as a number
abbrev pub whole : ℤ → ℕ
whole (pos n) = n
whole (negsuc n) = 0

-- how much is left at a location and time
abbrev pub left_in : CountTable → Loc → ℕ → ℕ
left_in table a t = whole (count_in table a t)

-- The counts are numbers of work left: none is negative, each is small, and where none is kept nothing is left
pub record AreLeft (table : CountTable) : Type 0 where
  pub whole_counts : (a : Loc) (t : ℕ) → count_in table a t ≡ pos (left_in table a t)
  pub few : (a : Loc) (t : ℕ) → left_in table a t < 2 ^ 100
  pub none_else : (a : Loc) (t : ℕ) → (IsCounted table a t → ⊥) → left_in table a t ≡ 0

-- so much work is left, at each location and time
abbrev pub HasWork : CountTable → List Work → Type 0
HasWork table works = (a : Loc) (t : ℕ) → work_at a t works ≤ left_in table a t
