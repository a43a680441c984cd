-- What a worker that is driven leaves of the answer in a sink, and how it ends.
use Rattle.std.specs.Prelude.{◌≡◌, ◌≢◌, ℕ, ◌≤◌, List, Ok, Err, Option, is_some}
use Rattle.std.specs.declared.result.Result.{Result}
use Rattle.mp_names.specs.Logs.{Log}
use Rattle.mp_names.specs.Outlines.{Outline}
use Rattle.mp_machine.specs.Promises.{LogIsFull}
use Rattle.mp_outside.specs.Fault.{Rose}
use Rattle.mp_outside.specs.Sink.{Beside, OnlyAppends}
use Rattle.mp_model.specs.Facts.{JobFacts, QueryFacts}
use Rattle.mp_seat.specs.Seats.{SeatState}
use Rattle.mp_board.specs.declared.causes.Cause.{Cause}
use Rattle.mp_answer_laws.specs.Lines.{HasBegun, HasWritten}
use Rattle.mp_worker_refinement.specs.State.{WorkerState}
use Rattle.mp_worker_refinement.specs.SystemState.{KnowsTheEnd}
use Rattle.mp_worker.specs.Below.{Stop}
use Rattle.mp_worker.specs.Below.stop.{Write, Memory, Other}
use Rattle.mp_threads_hub.specs.Hubs.{SeesCause, SeesStop}
use Rattle.mp_threads_member.specs.Members.{MemberState}
use Rattle.mp_threads_member.specs.Rounds.{progress}

-- The worker knows that all is over, and its log is full
pub record IsFinished (o : Outline) (s : WorkerState) : Type 0 where
  pub knows : KnowsTheEnd o s
  pub full : LogIsFull o s.number s.log

module _ {Cell S : Type 0} (q : QueryFacts Cell) (job : JobFacts) (written : S → Option (List ℕ)) (faults : S → ℕ) (frame : S → Beside) where
  -- A worker goes on, and not back, and keeps its steps if it did. What its log has as written is in the sink, as it was before; other workers than 0 write nothing. No write failed
  pub record GoesOn (old new : MemberState) (had has : S) : Type 0 where
    pub number : new.worker.number ≡ old.worker.number
    pub keeps : is_some new.worker.steps ≡ is_some old.worker.steps
    pub on : progress old.worker ≤ progress new.worker
    pub lines : (before : Option (List ℕ)) → HasWritten q job.events before old.worker.log (written had) → HasWritten q job.events before new.worker.log (written has)
    pub nothing : old.worker.number ≢ 0 → written has ≡ written had
    pub no_fault : faults has ≡ faults had
    pub appends : OnlyAppends frame faults had has

  -- A worker stops, and keeps its steps if it did. In the sink of worker 0 a beginning of the answer stands; other workers write nothing. After `Write` a fault was counted, and after no other cause. After `Other` its seat has seen that cause
  pub record StopsBy (stop : Stop) (old new : MemberState) (had has : S) : Type 0 where
    pub number : new.worker.number ≡ old.worker.number
    pub keeps : is_some new.worker.steps ≡ is_some old.worker.steps
    pub part : old.worker.number ≡ 0 → (before : Option (List ℕ)) → HasWritten q job.events before old.worker.log (written had) → HasBegun q job.events before (written has)
    pub nothing : old.worker.number ≢ 0 → written has ≡ written had
    pub failed : stop ≡ Write → Rose (faults had) (faults has)
    pub no_fault : stop ≢ Write → faults has ≡ faults had
    pub appends : OnlyAppends frame faults had has
    pub saw : (cause : Cause) → stop ≡ Other cause → SeesCause cause new.hub

  -- what driving a worker came to, by the answer: it goes on, or it stops
  abbrev pub Drives : {A : Type 0} → Result A Stop → (old new : MemberState) → (had has : S) → Type 0
  Drives (Ok came) old new had has = GoesOn old new had has
  Drives (Err stop) old new had has = StopsBy stop old new had has

-- what a worker that stops so leaves with all: `Other` is the cause that its seat saw; else its own cause stands on the board, or one that was told before
abbrev pub IsTold : Stop → SeatState Log → Type 0
IsTold (Other cause) seat = SeesCause cause seat
IsTold Write seat = SeesStop seat
IsTold Memory seat = SeesStop seat
