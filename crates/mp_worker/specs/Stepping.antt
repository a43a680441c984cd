-- What a step leaves at the post, at the hub and in the sink of its worker, by its answer.
use Rattle.std.specs.Prelude.{◌≡◌, ◌≢◌, ℕ, List, Option}
use Rattle.std.specs.declared.result.Result.{Result}
use Rattle.mp_names.specs.declared.kinds.Kind.{Kind}
use Rattle.mp_names.specs.declared.kinds.Kind.TheVariants.{Exchange, Write}
use Rattle.mp_names.specs.Logs.{Log}
use Rattle.mp_names.specs.Outlines.{Outline}
use Rattle.mp_stamps.specs.declared.seen.Seen.{Seen}
use Rattle.mp_outside.specs.Sink.{Beside, OnlyAppends}
use Rattle.mp_model.specs.Facts.{JobFacts, QueryFacts}
use Rattle.mp_board.specs.declared.causes.Cause.{Cause}
use Rattle.mp_worker_refinement.specs.Ends.{Standing, Waiting}
use Rattle.mp_worker_refinement.specs.Served.{IsAtHub, PostFollows}
use Rattle.mp_worker_refinement.specs.State.{WorkerState}
use Rattle.mp_turns.specs.declared.turn.Turn.{Turn}
use Rattle.mp_turns.specs.declared.turn.Stop.{Stop}
use Rattle.mp_worker.specs.Exchanging.{Exchanges}
use Rattle.mp_worker.specs.Turns.{Answers}
use Rattle.mp_worker.specs.Writing.{WritesInTurn}

module _ {P : Type 0} (workers depth : P → ℕ) (serves : P → ℕ → Type 0) (denotes : P → Standing) (waits : P → Waiting) (had_room was_full was_empty : P → ℕ → ℕ → Type 0) where
  -- The step came to its answer, and the post followed the log
  pub record StepsAtPost (o : Outline) (kind : Kind) (s now : WorkerState) (old new : P) (r : Result Turn Stop) : Type 0 where
    pub answers : Answers (had_room old) (was_full old) (was_empty old) o kind s now r
    pub mail : PostFollows workers depth serves denotes waits o s.number s.log now.log old new

module _ {H : Type 0} (serves : H → ℕ → Type 0) (posted : H → ℕ → Log) (version : H → ℕ) (after : H → ℕ → Log → H → Type 0) (kept : H → H → Type 0) (shows : H → Seen → Type 0) (goes_on : H → Type 0) (was_stopped : H → Cause → Type 0) (was_busy : H → Type 0) where
  -- Only an exchange changes the hub, and the worker stays at it
  pub record StepsAtHub (kind : Kind) (s now : WorkerState) (old new : H) (r : Result Turn Stop) : Type 0 where
    pub exchanges : kind ≡ Exchange → Exchanges after kept shows goes_on was_stopped was_busy s now old new r
    pub others_post_nothing : kind ≢ Exchange → new ≡ old
    pub at_hub : IsAtHub serves posted version now new
    pub still_serves : (w : ℕ) → serves old w → serves new w

module _ {Cell S : Type 0} (q : QueryFacts Cell) (job : JobFacts) (written : S → Option (List ℕ)) (frame : S → Beside) (faults : S → ℕ) where
  -- Only a write changes the sink
  pub record StepsAtSink (kind : Kind) (s : WorkerState) (old new : S) (r : Result Turn Stop) : Type 0 where
    pub writes : kind ≡ Write → WritesInTurn q job written faults s old new r
    pub others_write_nothing : kind ≢ Write → new ≡ old
    pub appends_only : OnlyAppends frame faults old new
