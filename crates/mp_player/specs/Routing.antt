-- The records that a worker routes next.
use Rattle.std.specs.Prelude.{◌≡◌, ℕ, ◌==◌, List, [], drop, get_or, length, min, slice_set}
use Rattle.std.specs.List.{prefix_len}
use Rattle.mp_names.specs.declared.names.Name.{Name}
use Rattle.mp_names.specs.declared.kinds.Kind.TheVariants.{Route}
use Rattle.mp_names.specs.Outlines.{Outline}
use Rattle.mp_machine.specs.Worlds.{World}
use Rattle.mp_machine.specs.Steps.{CanStep, names_of}
use Rattle.mp_chart.specs.declared.entry.Entry.{Entry}
use Rattle.mp_chart.specs.Entries.{entry_of}
use Rattle.mp_standing.specs.Held.{IsLeastFirst}
use Rattle.mp_standing.specs.declared.message.Message.{Message}

-- the records of a receiver, of those that are held by receiver
abbrev pub records_to : List (List Entry) → ℕ → List Entry
records_to held v = get_or held v []

-- how many records stand first in the list with this time, at most so many
abbrev pub run_of : List Entry → ℕ → ℕ → ℕ
run_of entries time most = min most (prefix_len (λ e. e.time == time) entries)

-- The message begins with the least of these records, and tells how many go with it: those that stand first for its receiver with its time
pub record IsFirstBundle (held : List (List Entry)) (most : ℕ) (m : Message) : Type 0 where
  pub least : IsLeastFirst held m.first
  pub count : m.count ≡ run_of (records_to held m.first.receiver) m.first.time most

-- the message tells the records of the stage that the worker can route next: the first of their names, and how many there are
pub record IsNextBundle (o : Outline) (depth w j : ℕ) (world : World) (m : Message) : Type 0 where
  pub name : Name
  pub first : m.first ≡ entry_of o name
  pub count : m.count ≡ length (names_of o world w (Route j) name)
  pub can : CanStep o depth world w (Route j) name

-- the records by stage and receiver without so many of the first of a stage to a receiver
abbrev pub without_first : List (List (List Entry)) → ℕ → ℕ → ℕ → List (List (List Entry))
without_first held stage v count = slice_set held stage (slice_set (get_or held stage []) v (drop count (records_to (get_or held stage []) v)))
