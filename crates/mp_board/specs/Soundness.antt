-- What is true of the parts of every board.
use Rattle.std.specs.Prelude.{◌≡◌, ◌+◌, ◌*◌, ◌^◌, ◌<◌, ◌≤◌, ◌⊎◌, ℕ, List, Contains, length}
use Rattle.mp_names.specs.declared.locations.Loc.{Loc}
use Rattle.mp_names.specs.declared.names.Name.{Name}
use Rattle.mp_names.specs.Frontiers.{HasPassed, count_at, log_at}
use Rattle.mp_names.specs.Laws.{log_size, names_in}
use Rattle.mp_names.specs.Limits.{most_stages, most_workers}
use Rattle.mp_names.specs.Locations.{IsLocation}
use Rattle.mp_names.specs.Logs.{Log, LogsAreLegal}
use Rattle.mp_names.specs.Names.{In}
use Rattle.mp_names.specs.Outlines.{IsOwed, Outline, OutlineIsSound, groups_of, time_of}
use Rattle.mp_stamps.specs.Counts.{CountTable, count_in, low_of}
use Rattle.mp_stamps.specs.declared.seen.Seen.{Seen}
use Rattle.mp_stamps.specs.Seen.{seen_at}
use Rattle.mp_rows.specs.WorkerLog.{most_changes, most_names}
use Rattle.mp_board.specs.Boards.{ShowsFrontiers}
use Rattle.mp_board.specs.Totals.{HasRoomFor}

-- among the times are those of all names that can be counted: of what has to be sent, and of the groups
abbrev pub HoldsAllTimes : Outline → List ℕ → Type 0
HoldsAllTimes o times = (x : Name) → IsOwed o x ⊎ ((j : ℕ) × In x (groups_of o j)) → Contains times (time_of o x)

-- The outline is sound, each worker has a legal log, the counts are those of the logs, and what was seen is what they show
pub record BoardIsSound (o : Outline) (logs : List Log) (counts : CountTable) (seen : Seen) : Type 0 where
  pub outline : OutlineIsSound o
  pub few_stages : o.stages ≤ most_stages
  pub few_workers : o.workers ≤ most_workers
  pub each_worker : length logs ≡ o.workers
  pub legal_logs : LogsAreLegal o (log_at logs)
  pub few_names : (w : ℕ) → log_size (log_at logs w) ≤ most_names
  pub stages : counts.stages ≡ o.stages
  pub times : HoldsAllTimes o counts.times
  pub counted : (loc : Loc) (t : ℕ) → count_in counts loc t ≡ count_at o (log_at logs) loc t
  -- what was given back lies before what was seen
  pub given_back : (loc : Loc) (t : ℕ) → IsLocation o.stages loc → Contains counts.times t → t < low_of counts loc → HasPassed (seen_at seen loc) t
  -- each name that is posted may bring so many changes
  pub room : (k : ℕ) → k + most_changes * names_in o.workers (log_at logs) ≤ 2 ^ 63 → HasRoomFor k counts
  -- each change of a log posts one name at least
  pub few_versions : seen.version ≤ names_in o.workers (log_at logs)
  pub seen_stages : seen.stages ≡ o.stages
  pub frontiers : ShowsFrontiers o logs seen
