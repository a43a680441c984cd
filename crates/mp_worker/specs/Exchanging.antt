-- What an exchange came to at a hub, by its answer, in the hub's own words.
use Rattle.std.specs.Prelude.{◌≡◌, ℕ, Ok, Err}
use Rattle.std.specs.declared.result.Result.{Result}
use Rattle.mp_names.specs.Logs.{Log}
use Rattle.mp_stamps.specs.declared.seen.Seen.{Seen}
use Rattle.mp_board.specs.declared.causes.Cause.{Cause}
use Rattle.mp_worker_refinement.specs.State.{WorkerState}
use Rattle.mp_worker_refinement.specs.Steps.{Sees}
pub use Rattle.mp_worker_sends.specs.Below.{IsPosted, ShowsNothingNew}
use Rattle.mp_turns.specs.declared.turn.Turn.{Turn}
use Rattle.mp_turns.specs.declared.turn.Turn.TheVariants as turn
use Rattle.mp_turns.specs.declared.turn.Stop.{Stop}
use Rattle.mp_turns.specs.declared.turn.Stop.TheVariants as stop

module _ {H : Type 0} (after : H → ℕ → Log → H → Type 0) (kept : H → H → Type 0) (shows : H → Seen → Type 0) (goes_on : H → Type 0) (was_stopped : H → Cause → Type 0) (was_busy : H → Type 0) (s now : WorkerState) (old new : H) where
  -- the log was posted, and a later version was seen; or nothing had changed since the last exchange; or the worker and the hub are as they were: the hub was held, a worker had stopped, or there was no memory to keep the step, as an exchange takes none else
  abbrev pub Exchanges : Result Turn Stop → Type 0
  Exchanges (Ok (turn.Seen version)) = Sees s version now × IsPosted after goes_on s old new × shows new now.seen
  Exchanges (Ok turn.NotNow) = (now ≡ s) × (s.posted ≡ s.log) × IsPosted after goes_on s old new × ShowsNothingNew shows s new
  Exchanges (Ok turn.Busy) = (now ≡ s) × was_busy old × kept old new
  Exchanges (Err stop.Memory) = (now ≡ s) × (new ≡ old)
  Exchanges (Err (stop.Other cause)) = (now ≡ s) × was_stopped new cause × kept old new
  Exchanges _ = ⊥
