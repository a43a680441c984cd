-- What a worker tried in a round, and how far it came.
use Rattle.std.specs.Prelude.{◌≡◌, ◌≢◌, ◌⊎◌, ℕ, ◌+◌, ◌<◌, All, List, Ok}
use Rattle.std.specs.declared.result.Result.{Result}
use Rattle.mp_names.specs.declared.kinds.Kind.{Kind}
use Rattle.mp_names.specs.declared.kinds.Kind.TheVariants.{Exchange, Receive}
use Rattle.mp_names.specs.declared.names.Name.{Name}
use Rattle.mp_names.specs.Laws.{log_size}
use Rattle.mp_names.specs.Outlines.{Outline}
use Rattle.mp_machine.specs.Places.{kinds_of}
use Rattle.mp_ruled.specs.Posts.{PostState, ReceiverWasEmpty, SenderWasFull}
use Rattle.mp_seat.specs.Seats.{HasOthers}
use Rattle.mp_worker_refinement.specs.Mail.{MailboxBlocks}
use Rattle.mp_worker_refinement.specs.State.{CanMake, WorkerState}
use Rattle.mp_worker.specs.Below.{Stop}
use Rattle.mp_worker.specs.Below.{Turn}
use Rattle.mp_worker.specs.Below.turn.{Did, Seen, NotNow, Busy}
use Rattle.mp_threads_member.specs.Members.{IsAtEnds, MemberState}

-- how far a worker has come: the names in its log, and the version of the board that it saw
abbrev pub progress : WorkerState → ℕ
progress s = log_size s.log + s.seen.version

-- an exchange would show nothing new: the worker has posted its log, and saw the version that its seat saw; or another seat may hold the board
abbrev pub IsUpToDate : MemberState → Type 0
IsUpToDate m = ((m.worker.posted ≡ m.worker.log) × (m.worker.seen.version ≡ m.hub.version)) ⊎ HasOthers m.hub

-- The worker can't make a step of this kind, or the mailbox that it needs was full, or empty, at its ends; an exchange would show nothing new
pub record IsHindered (o : Outline) (m : MemberState) (kind : Kind) : Type 0 where
  pub post : PostState (List Name)
  pub ends : IsAtEnds o m.worker.number m.worker.log post
  pub mail : (x : Name) → CanMake o kind m.worker x → MailboxBlocks (SenderWasFull post) (ReceiverWasEmpty post) o m.worker.number kind x
  pub board : kind ≡ Exchange → IsUpToDate m

-- A step of this kind was tried, and the worker is as it was. The seat looks at the board in an exchange alone
pub record WasHindered (o : Outline) (kind : Kind) (old new : MemberState) : Type 0 where
  pub same : new.worker ≡ old.worker
  pub hindered : IsHindered o new kind
  pub hub : kind ≢ Exchange → new.hub ≡ old.hub

-- Steps of all kinds that the job has were tried, and the worker is as it was
pub record HasTriedAll (o : Outline) (old new : MemberState) : Type 0 where
  pub same : new.worker ≡ old.worker
  pub each : All (IsHindered o new) (kinds_of o)

-- It was tried to receive from each worker, and this one and its seat are as they were
pub record HasReceivedNone (o : Outline) (old new : MemberState) : Type 0 where
  pub same : new.worker ≡ old.worker
  pub hub : new.hub ≡ old.hub
  pub each : (from : ℕ) → from < o.workers → IsHindered o new (Receive from)

-- the worker came further
abbrev pub HasComeFurther : MemberState → MemberState → Type 0
HasComeFurther old new = progress old.worker < progress new.worker

-- a step was made, or wasn't
abbrev pub OnMade : Result Turn Stop → Type 0 → Type 0
OnMade (Ok (Did x n)) P = P
OnMade (Ok (Seen version)) P = P
OnMade _ P = Unit {0}

abbrev pub OnNotMade : Result Turn Stop → Type 0 → Type 0
OnNotMade (Ok NotNow) P = P
OnNotMade (Ok Busy) P = P
OnNotMade _ P = Unit {0}
