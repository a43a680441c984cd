-- What contracts see of a board, and what an exchange makes of it.
use Rattle.std.specs.Prelude.{ℕ, suc, List, Option, slice_set, if◌then◌else◌}
use Rattle.mp_names.specs.declared.locations.Loc.{Loc}
use Rattle.mp_names.specs.Frontiers.{IsFrontier, log_at}
use Rattle.mp_names.specs.Logs.{Log}
use Rattle.mp_names.specs.Outlines.{Outline}
use Rattle.mp_names.specs.Locations.{IsLocation}
use Rattle.mp_stamps.specs.declared.seen.Seen.{Seen}
use Rattle.mp_stamps.specs.Seen.{seen_at}
use Rattle.mp_machine.specs.Steps.{same_log}
use Rattle.mp_board.specs.declared.causes.Cause.{Cause}

-- the logs that the workers posted last, how often one of them changed, and why a worker stopped
pub record Posted : Type 0 where
  pub logs : List Log
  pub version : ℕ
  pub stopped : Option Cause

-- the version once a worker posts its log: one more, where the log isn't what stood there
abbrev pub version_with : Posted → ℕ → Log → ℕ
version_with board w log = if same_log log (log_at board.logs w) then board.version else suc board.version

-- what was seen are the frontiers of the logs, at each location that the job has
abbrev pub ShowsFrontiers : Outline → List Log → Seen → Type 0
ShowsFrontiers o logs seen = (at : Loc) → IsLocation o.stages at → IsFrontier o (log_at logs) at (seen_at seen at)

-- the board after an exchange of a worker's log
abbrev pub exchanged : Posted → ℕ → Log → Posted
exchanged board w log = record board { logs = slice_set board.logs w log; version = version_with board w log }
