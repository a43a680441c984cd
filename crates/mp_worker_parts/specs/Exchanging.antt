-- What an exchange came to at a hub, by its answer, in the hub's own words.
use Rattle.std.specs.Prelude.{◌≡◌, ℕ, Ok, Err}
use Rattle.std.specs.declared.result.Result.{Result}
use Rattle.mp_names.specs.Logs.{Log}
use Rattle.mp_stamps.specs.declared.seen.Seen.{Seen}
use Rattle.mp_board.specs.declared.causes.Cause.{Cause}
use Rattle.mp_board.specs.declared.causes.HubStop.{HubStop}
use Rattle.mp_board.specs.declared.causes.HubStop.TheVariants as stop
use Rattle.mp_worker_refinement.specs.State.{WorkerState}
use Rattle.mp_worker_refinement.specs.Steps.{Sees}
use Rattle.mp_worker_parts.specs.declared.exchange.Exchanged.{Exchanged}
use Rattle.mp_worker_parts.specs.declared.exchange.Exchanged.TheVariants as came

-- no worker had stopped, and the log is posted
abbrev pub IsPosted : {H : Type 0} → (H → ℕ → Log → H → Type 0) → (H → Type 0) → WorkerState → (old new : H) → Type 0
IsPosted after goes_on s old new = goes_on old × after old s.number s.log new

-- the version that the worker had seen is shown again
abbrev pub ShowsNothingNew : {H : Type 0} → (H → Seen → Type 0) → WorkerState → H → Type 0
ShowsNothingNew shows s new = (seen : Seen) × shows new seen × (seen.version ≡ s.seen.version)

module _ {H : Type 0} (after : H → ℕ → Log → H → Type 0) (kept : H → H → Type 0) (shows : H → Seen → Type 0) (goes_on : H → Type 0) (was_stopped : H → Cause → Type 0) (was_busy : H → Type 0) (s now : WorkerState) (old new : H) where
  -- the log was posted, and a new version was seen; or nothing had changed since the last exchange; or the worker and the hub are as they were: the hub was held, or a worker had stopped
  abbrev pub PostsLog : Result Exchanged HubStop → Type 0
  PostsLog (Ok (came.Seen version)) = Sees s version now × IsPosted after goes_on s old new × shows new now.seen
  PostsLog (Ok came.NothingNew) = (now ≡ s) × (s.posted ≡ s.log) × IsPosted after goes_on s old new × ShowsNothingNew shows s new
  PostsLog (Ok came.Busy) = (now ≡ s) × was_busy old × kept old new
  PostsLog (Err (stop.Other cause)) = (now ≡ s) × was_stopped new cause × kept old new
