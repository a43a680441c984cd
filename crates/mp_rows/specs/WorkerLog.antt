-- What contracts see of a log.
use Rattle.std.specs.Prelude.{◌+◌, ◌*◌, ◌^◌, ◌≤◌, ℕ, List, length}
use Rattle.mp_names.specs.declared.pointstamps.Change.{Change}
use Rattle.mp_names.specs.Laws.{log_size}
use Rattle.mp_names.specs.Logs.{Log, LogGrows}
use Rattle.mp_names.specs.Outlines.{Outline}
use Rattle.mp_rows.specs.Entries.{ArePending}

-- a worker's lists of names, those that it posted last, and the room that was made: for how many more names, and for how many changes
pub record WorkerLog : Type 0 where
  pub worker : ℕ
  pub log : Log
  pub posted : Log
  pub room_for_names : ℕ
  pub room_for_changes : ℕ

-- how many names a log may have
abbrev pub most_names : ℕ
most_names = 2 ^ 33

-- how many changes may come with a name
abbrev pub most_changes : ℕ
most_changes = 2 ^ 24

-- The log has grown from the one that was posted by so many names, and the changes are what that adds to its contributions
pub record IsUnposted (o : Outline) (w : ℕ) (posted log : Log) (changes : List Change) : Type 0 where
  pub grows : LogGrows posted log
  pub pending : ArePending o w posted log changes
  -- so many that no sum of them is past its type
  pub few_changes : length changes + most_changes * log_size posted ≤ most_changes * log_size log
  pub few_names : log_size log ≤ most_names
