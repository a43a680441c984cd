-- The entries of a log that is empty.
use Rattle.std.specs.Prelude.{◌≡◌, ◌≢◌, ◌↔◌, ℕ, ◌==◌, List, [], pos, map, slice_get, if◌then◌else◌, AllPairs, Contains}
use Rattle.std.specs.Option.{option_map_or}
use Rattle.mp_names.specs.declared.controls.Control.{Control}
use Rattle.mp_names.specs.declared.locations.Loc.TheVariants.{Ctl, Source, Host}
use Rattle.mp_names.specs.declared.pointstamps.Change.{Change}
use Rattle.mp_bins.specs.Bins.{bin_of_key}
use Rattle.mp_bins.specs.Notes.{first_owner}
use Rattle.mp_model.specs.declared.record.Event.{Event}
use Rattle.mp_model.specs.Facts.{JobFacts, QueryFacts}
use Rattle.mp_outline.specs.JobOutline.{layout_of}
use Rattle.mp_rows.specs.Entries.{change_at}

-- on worker 0 each control record counts at its time once for each worker
abbrev pub control_entries : ℕ → ℕ → List Control → List Change
control_entries workers w controls = if w == 0 then map (λ c. change_at Ctl c.time (pos workers)) controls else []

-- the time of the event of this index
abbrev pub time_at : List Event → ℕ → ℕ
time_at events i = option_map_or (λ e. e.time) (slice_get events i) 0

-- each event of these indices counts once at its time
abbrev pub source_entries : List Event → List ℕ → List Change
source_entries events share = map (λ i. change_at Source (time_at events i) (pos 1)) share

-- each of these wakes, a time and a key, counts once at its time
abbrev pub wake_entries : List (ℕ × ℕ) → List Change
wake_entries wakes = map (λ w. change_at (Host 0) w.0 (pos 1)) wakes

-- the worker is the first owner of this bin of the first stage
abbrev pub IsFirstOwner : JobFacts → ℕ → ℕ → Type 0
IsFirstOwner job w b = first_owner (layout_of job) 0 b ≡ w

-- with so many bins these are, each once, the wakes that the first stage begins with whose keys are in a bin of which P holds
pub record AreWakesOf {Cell : Type 0} (q : QueryFacts Cell) (bins : ℕ) (P : ℕ → Type 0) (wakes : List (ℕ × ℕ)) : Type 0 where
  pub are : (u k : ℕ) → (Contains wakes (u, k) ↔ (Contains (q.waking 0) (u, k) × P (bin_of_key k bins)))
  pub once : AllPairs (λ v w. v ≢ w) wakes
