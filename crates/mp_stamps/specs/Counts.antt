-- What a table of counts says of each location and time.
use Rattle.std.specs.Prelude.{◌≡◌, ◌≢◌, ◌<◌, ◌≤◌, ◌-◌, ◌*◌, ◌/◌, ℕ, zero, suc, if◌then◌else◌, nat_lt, map, Bool, true, false, ◌&&◌, ◌==◌, cond, List, [], ◌∷◌, ℤ, pos, All, Contains, length, replicate, slice_index_or}
use Rattle.std.specs.List.Sorted.{IsStrictlyIncreasing}
use Rattle.mp_names.specs.declared.locations.Loc.{Loc}
use Rattle.mp_names.specs.declared.locations.Loc.TheVariants.{Ctl, CtlMail, Source, Route, Mail, Move, State, Host, OutRoute, OutMail}
use Rattle.mp_names.specs.declared.pointstamps.Pointstamp.{Pointstamp}
use Rattle.mp_names.specs.Limits.{most_stages}
use Rattle.mp_names.specs.Locations.{IsLocation, Reaches}
use Rattle.mp_stamps.specs.Places.{place_of, places_of}
use Rattle.mp_stamps.specs.Rows.{RowState, count_there, pieces_of}

-- the two are one location
abbrev pub same_loc : Loc → Loc → Bool
same_loc Ctl Ctl = true
same_loc CtlMail CtlMail = true
same_loc Source Source = true
same_loc (Route i) (Route j) = i == j
same_loc (Mail i) (Mail j) = i == j
same_loc (Move i) (Move j) = i == j
same_loc (State i) (State j) = i == j
same_loc (Host i) (Host j) = i == j
same_loc OutRoute OutRoute = true
same_loc OutMail OutMail = true
same_loc _ _ = false

-- the pointstamp is of this location and time
abbrev pub is_stamp : Loc → ℕ → Pointstamp → Bool
is_stamp a t p = same_loc p.loc a && p.time == t

-- the counts of a job of so many stages: for each place those of the location there, one for each of the times
pub record CountTable : Type 0 where
  pub stages : ℕ
  pub times : List ℕ
  pub rows : List (List ℤ)
  -- by the places of locations, the time below which counts were given back
  pub low : List ℕ

-- the first time of a piece of 1024: one past the last time, where no time is in it or behind it; 0 for the first piece, as no time is before it
abbrev pub start_of : List ℕ → ℕ → ℕ
start_of times zero = 0
start_of times (suc b) = slice_index_or times (1024 * suc b) (suc (slice_index_or times (length times - 1) 0))

-- how many of the times, which rise, are below this one
abbrev pub number_below : List ℕ → ℕ → ℕ
number_below [] t = 0
number_below (u ∷ us) t = cond (nat_lt u t) (suc (number_below us t)) 0

-- how many pieces have no time from this one on
abbrev pub pieces_below : List ℕ → ℕ → ℕ
pieces_below times t = if number_below times t == length times then pieces_of (length times) else number_below times t / 1024

-- the first time of the piece that has the first time from this one on
abbrev pub piece_start : List ℕ → ℕ → ℕ
piece_start times t = start_of times (pieces_below times t)

-- the counts of these rows
abbrev pub table_of_rows : ℕ → List ℕ → List RowState → CountTable
table_of_rows stages times rows = record {
  stages = stages;
  times = times;
  rows = map (λ r. r.counts) rows;
  low = map (λ r. start_of times r.given) rows;
}

-- the count of a time, 0 of one that isn't among the times
abbrev pub count_of : List ℕ → List ℤ → ℕ → ℤ
count_of (u ∷ us) (n ∷ ns) t = cond (u == t) n (count_of us ns t)
count_of _ _ t = pos 0

-- the counts of a location, none where it has no place
abbrev pub row_of : CountTable → Loc → List ℤ
row_of table at = slice_index_or table.rows (place_of at) []

-- the count of a location at a time, 0 where none is kept
abbrev pub count_in : CountTable → Loc → ℕ → ℤ
count_in table at t = count_of table.times (row_of table at) t

-- the time below which the counts of a location were given back
abbrev pub low_of : CountTable → Loc → ℕ
low_of table at = slice_index_or table.low (place_of at) 0

-- a count is kept of the location at the time: there is one, and it wasn't given back
abbrev pub IsCounted : CountTable → Loc → ℕ → Type 0
IsCounted table at t = IsLocation table.stages at × Contains table.times t × (low_of table at ≤ t)

-- counts are kept of the same locations and times, and none was given back
pub record SamePlaces (old new : CountTable) : Type 0 where
  pub stages : new.stages ≡ old.stages
  pub times : new.times ≡ old.times
  pub low : new.low ≡ old.low

-- a row has whole pieces with a count of each of so many times, and behind those zeros
pub record IsRowFor (times : ℕ) (row : List ℤ) : Type 0 where
  pub long : length row ≡ 1024 * pieces_of times
  pub no_more : (k : ℕ) → times ≤ k → count_there row k ≡ pos 0

-- the times rise, and each place has counts of all
pub record IsTable (table : CountTable) : Type 0 where
  pub few_stages : table.stages ≤ most_stages
  pub rising : IsStrictlyIncreasing table.times
  pub each_place : length table.rows ≡ places_of table.stages
  pub each_time : All (IsRowFor (length table.times)) table.rows
  pub each_low : length table.low ≡ length table.rows

-- of each place that is before the given one and whose location could result in something at `loc`, the counts before the index are 0; and one at the index isn't, unless it is the end
pub record IsFirstFor (table : CountTable) (loc : Loc) (places first : ℕ) : Type 0 where
  pub within : first ≤ length table.times
  pub quiet : (a : Loc) (k : ℕ) → place_of a < places → Reaches a loc → k < first → count_there (row_of table a) k ≡ pos 0
  pub open_there : first < length table.times → (a : Loc) × (place_of a < places_of table.stages) × Reaches a loc × (count_there (row_of table a) first ≢ pos 0)

-- there are so many rows, each with counts of so many times that are 0, and nothing was given back
abbrev pub AreZeroRows : ℕ → ℕ → List RowState → Type 0
AreZeroRows places times rows = rows ≡ replicate places (record { given = 0; counts = replicate (1024 * pieces_of times) (pos 0) })
