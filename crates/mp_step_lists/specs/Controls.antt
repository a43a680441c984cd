-- Control records for each worker, and the time that is before one.
use Rattle.std.specs.Prelude.{◌≡◌, ℕ, ◌<◌, ◌≤◌, List, [], ◌∷◌, All, Option, None, Some, length, get_or}
use Rattle.mp_names.specs.declared.names.Name.TheVariants.{Ctrl}
use Rattle.mp_names.specs.Names.{joined_below}
use Rattle.mp_chart.specs.declared.entry.Entry.{Entry}

-- the control record at this index and of this time, on its way to the worker
abbrev pub sent_to : ℕ → ℕ → ℕ → Entry
sent_to i t v = record { name = Ctrl i v; time = t; receiver = v }

-- the same to each of n workers
abbrev pub sent_to_each : ℕ → ℕ → ℕ → List Entry
sent_to_each i t n = joined_below n (λ v. sent_to i t v ∷ [])

-- the greatest of the times of these entries that are below t, if there is one
abbrev pub IsLatestBelow : List Entry → ℕ → Option ℕ → Type 0
IsLatestBelow es t None = All (λ e. t ≤ e.time) es
IsLatestBelow es t (Some u) = (u < t) × ((k : ℕ) × (k < length es) × ((d : Entry) → (get_or es k d).time ≡ u)) × All (λ e. e.time < t → e.time ≤ u) es
