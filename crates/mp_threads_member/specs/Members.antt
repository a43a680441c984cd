-- A worker with its ends of the mailboxes and its seat at the board, as contracts see it.
use Rattle.std.specs.Prelude.{◌≡◌, ℕ, List, length}
use Rattle.std.specs.declared.result.Result.{Result}
use Rattle.mp_names.specs.declared.kinds.Kind.{Kind}
use Rattle.mp_names.specs.declared.names.Name.{Name}
use Rattle.mp_names.specs.Logs.{Log, empty_log}
use Rattle.mp_names.specs.Outlines.{Outline}
use Rattle.mp_ruled.specs.Posts.{PostState, ReceiverWasEmpty, RuledStands, SenderHadRoom, SenderWasFull}
use Rattle.mp_seat.specs.Seats.{HasOthers, SeatState}
use Rattle.mp_worker_refinement.specs.Ends.{Standing}
use Rattle.mp_worker_refinement.specs.Served.{IsAtHub, IsAtPost, PostFollows}
use Rattle.mp_worker_refinement.specs.State.{WorkerState}
use Rattle.mp_worker.specs.Below.{Stop}
use Rattle.mp_worker.specs.Below.{Turn}
use Rattle.mp_worker.specs.Exchanging.{Exchanges}
use Rattle.mp_worker.specs.Turns.{Answers}
use Rattle.mp_threads_hub.specs.Hubs.{HasLooked, HasPosted, IsSeatOf, SeesCause, SeesNoStop, ShowsBoard, own_row}

pub record MemberState : Type 0 where
  pub worker : WorkerState
  pub post : PostState (List Name)
  pub hub : SeatState Log

-- what the ends stand for, a message being its names
abbrev pub ends_denote : PostState (List Name) → Standing
ends_denote post = RuledStands (λ xs. xs) post

-- the ends are this worker's, and stand for what its log has as sent and taken
abbrev pub IsAtEnds : Outline → ℕ → Log → PostState (List Name) → Type 0
IsAtEnds o w log post = IsAtPost (λ p. length p.senders) (λ _. 0) (λ p w. w ≡ p.worker) ends_denote o w log post

-- the seat is this worker's, and has the log that it posted last
abbrev pub IsAtSeat : Outline → WorkerState → SeatState Log → Type 0
IsAtSeat o s seat = IsAtHub (IsSeatOf o) (λ h w. own_row h) (λ h. h.version) s seat

-- The worker is at its ends and at its seat
pub record IsMember (o : Outline) (m : MemberState) : Type 0 where
  pub post : IsAtEnds o m.worker.number m.worker.log m.post
  pub hub : IsAtSeat o m.worker m.hub

-- what a step came to, by the answer, with these ends
abbrev pub AnswersByMail : Outline → Kind → MemberState → MemberState → Result Turn Stop → Type 0
AnswersByMail o kind old new result = Answers (SenderHadRoom old.post) (SenderWasFull old.post) (ReceiverWasEmpty old.post) o kind old.worker new.worker result

-- as the worker's log changed, so did what the ends stand for; which messages wait they don't tell
abbrev pub MailFollows : Outline → MemberState → MemberState → Type 0
MailFollows o old new = PostFollows (λ p. length p.senders) (λ _. 0) (λ p w. w ≡ p.worker) ends_denote (λ _ _ _ _. ⊥) o old.worker.number old.worker.log new.worker.log old.post new.post

-- what an exchange came to at the board, by way of the seat
abbrev pub ExchangesBySeat : Outline → MemberState → MemberState → Result Turn Stop → Type 0
ExchangesBySeat o old new result =
    Exchanges (λ h w log k. HasPosted h log k) HasLooked (ShowsBoard o) SeesNoStop (λ h cause. SeesCause cause h) HasOthers old.worker new.worker old.hub new.hub result

-- the worker has an empty log, and posted that, and made no exchange
abbrev pub HasDoneNothing : MemberState → Type 0
HasDoneNothing m = (m.worker.log ≡ empty_log) × (m.worker.posted ≡ empty_log) × (m.worker.seen.version ≡ 0)
