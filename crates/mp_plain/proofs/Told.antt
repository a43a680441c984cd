-- What a worker says of its step, by its answer.
use Rattle.std.proofs.Common.{◌≡◌, ◌⊎◌, ℕ, Some, None, Ok, Err, List, Option, refl, ap, subst, inl, inr, ⊎_elim}
use Rattle.std.specs.Prelude.{OnErr}
use Rattle.std.specs.declared.result.Result.{Result}
use Rattle.mp_names.specs.declared.kinds.Kind.{Kind}
use Rattle.mp_names.specs.declared.kinds.Kind.TheVariants.{Exchange, Write}
use Rattle.mp_names.specs.declared.names.Name.{Name}
use Rattle.mp_names.specs.Outlines.{Outline}
use Rattle.mp_stamps.specs.declared.seen.Seen.{Seen}
use Rattle.mp_mailbox.specs.Queues.{HadRoom, Queues, WasEmpty, WasFull}
use Rattle.mp_board.specs.Boards.{Posted, ShowsFrontiers, exchanged}
use Rattle.mp_model.specs.Facts.{JobFacts, QueryFacts}
use Rattle.mp_outside.specs.Fault.{Rose}
use Rattle.mp_outside.specs.Sink.{grown}
use Rattle.mp_answer_laws.specs.Lines.{lines_of_time}
use Rattle.mp_msg.specs.declared.names.Names.{Names}
use Rattle.mp_worker_refinement.specs.Ends.{FollowsLog, MessagesFollowLog}
use Rattle.mp_worker_refinement.specs.Mail.{MailboxAllows, MailboxBlocks}
use Rattle.mp_worker_refinement.specs.Served.{PostFollows}
use Rattle.mp_worker_refinement.specs.State.{CanMake, Makes, WorkerState}
use Rattle.mp_worker_refinement.specs.Steps.{Sees, Tells}
use Rattle.mp_worker_refinement.specs.SystemState.{queues_denote, queues_wait}
use Rattle.mp_worker.specs.Below.{Stop}
use Rattle.mp_worker.specs.Below.stop
use Rattle.mp_worker.specs.Below.{Turn as Answered}
use Rattle.mp_worker.specs.Below.turn as worker
use Rattle.mp_worker.specs.Exchanging.{Exchanges}
use Rattle.mp_worker.specs.Below.{steps_after}
use Rattle.mp_worker.specs.Turns.{Answers}
use Rattle.mp_worker.specs.Writing.{WritesInTurn, WritesPart}

-- What holds where a step gives one answer or another

abbrev pub IfDid : Result Answered Stop → (Names → Type 0) → Type 0
IfDid (Ok (worker.Did x n)) P = P (record { first = x; count = n })
IfDid _ P = Unit {0}

abbrev pub IfSaw : Result Answered Stop → (ℕ → Type 0) → Type 0
IfSaw (Ok (worker.Seen version)) P = P version
IfSaw _ P = Unit {0}

abbrev pub IfNotNow : Result Answered Stop → Type 0 → Type 0
IfNotNow (Ok worker.NotNow) P = P
IfNotNow _ P = Unit {0}

abbrev pub IfBusy : Result Answered Stop → Type 0 → Type 0
IfBusy (Ok worker.Busy) P = P
IfBusy _ P = Unit {0}

-- unless names were put into the log, or a new version was seen
abbrev pub IfNotMade : Result Answered Stop → Type 0 → Type 0
IfNotMade (Ok (worker.Did x n)) P = Unit {0}
IfNotMade (Ok (worker.Seen version)) P = Unit {0}
IfNotMade _ P = P

pub is_exchange : (kind : Kind) → (kind ≡ Exchange) ⊎ (kind ≡ Exchange → ⊥)
is_exchange Exchange = inl refl
is_exchange kind = inr (λ e. cc)

pub is_write : (kind : Kind) → (kind ≡ Write) ⊎ (kind ≡ Write → ⊥)
is_write Write = inl refl
is_write kind = inr (λ e. cc)

pub exchange_no_write : (kind : Kind) → kind ≡ Exchange → kind ≡ Write → ⊥
exchange_no_write kind e f = cc

-- What a worker with this number says of its step, on a board and on plain queues
pub record Says (o : Outline) (kind : Kind) (board after : Posted) (post left : Queues (List Name)) (s new : WorkerState) (r : Result Answered Stop) (w : ℕ) : Type 0 where
  pub did : IfDid r (λ told. (xs : List Name) × Tells told xs × Makes o kind s xs new × MailboxAllows (HadRoom post) o w kind xs)
  pub saw : IfSaw r (λ version. (kind ≡ Exchange) × Sees s version new)
  pub shown : IfSaw r (λ _. (after ≡ exchanged board w s.log) × ((new.seen.version ≡ after.version) × ShowsFrontiers o after.logs new.seen))
  pub not_now : IfNotNow r ((x : Name) → CanMake o kind s x → MailboxBlocks (WasFull post) (WasEmpty post) o w kind x)
  pub same : IfNotNow r (kind ≡ Exchange → (after ≡ exchanged board w s.log) × ((seen : Seen) × ((seen.version ≡ after.version) × ShowsFrontiers o after.logs seen) × (seen.version ≡ s.seen.version)))
  pub busy : IfBusy r ⊥
  pub unchanged : IfNotMade r (new ≡ s)
  pub follows : FollowsLog (queues_denote o post) (queues_denote o left) o w s.log new.log
  pub messages : MessagesFollowLog (queues_wait post) (queues_wait left) o w s.log new.log
  pub workers : left.workers ≡ post.workers
  pub depth : left.depth ≡ post.depth
  pub others : (kind ≡ Exchange → ⊥) → after ≡ board
  pub kept : OnErr r (after ≡ board)
  pub keeps : new.steps ≡ steps_after s.steps kind r

module _ (o : Outline) (kind : Kind) (board after : Posted) (post left : Queues (List Name)) (s new : WorkerState) where
  abbrev Answer : Result Answered Stop → Type 0
  Answer r = Answers (HadRoom post) (WasFull post) (WasEmpty post) o kind s new r

  -- an exchange at a board that goes on and is never held
  abbrev pub AtBoard : Result Answered Stop → Type 0
  AtBoard r =
      kind ≡ Exchange → Exchanges (λ b w log c. c ≡ exchanged b w log) (λ b c. c ≡ b) (λ b seen. (seen.version ≡ b.version) × ShowsFrontiers o b.logs seen) (λ b. b.stopped ≡ None) (λ b cause. b.stopped ≡ Some cause) (λ _. ⊥) s new board after r

  did_of : (r : Result Answered Stop) → Answer r → IfDid r (λ told. (xs : List Name) × Tells told xs × Makes o kind s xs new × MailboxAllows (HadRoom post) o s.number kind xs)
  did_of (Ok (worker.Did x n)) a = (a.names, a.tells, a.makes, a.allows)
  did_of r a = tt

  saw_of : (r : Result Answered Stop) → Answer r → IfSaw r (λ version. (kind ≡ Exchange) × Sees s version new)
  saw_of (Ok (worker.Seen version)) a = a
  saw_of r a = tt

  shown_of : (r : Result Answered Stop) → Answer r → AtBoard r → IfSaw r (λ _. (after ≡ exchanged board s.number s.log) × ((new.seen.version ≡ after.version) × ShowsFrontiers o after.logs new.seen))
  shown_of (Ok (worker.Seen version)) a at = let h = at a.0 in (h.1.1, h.2)
  shown_of r a at = tt

  not_now_of : (r : Result Answered Stop) → Answer r → IfNotNow r ((x : Name) → CanMake o kind s x → MailboxBlocks (WasFull post) (WasEmpty post) o s.number kind x)
  not_now_of (Ok worker.NotNow) a = a.0
  not_now_of r a = tt

  same_of : (r : Result Answered Stop) → AtBoard r
      → IfNotNow r (kind ≡ Exchange → (after ≡ exchanged board s.number s.log) × ((seen : Seen) × ((seen.version ≡ after.version) × ShowsFrontiers o after.logs seen) × (seen.version ≡ s.seen.version)))
  same_of (Ok worker.NotNow) at = λ e. let h = at e in (h.2.1, h.3)
  same_of r at = tt

  busy_of : (r : Result Answered Stop) → Answer r → AtBoard r → IfBusy r ⊥
  busy_of (Ok worker.Busy) a at = (at a.0).1
  busy_of r a at = tt

  unchanged_of : (r : Result Answered Stop) → Answer r → IfNotMade r (new ≡ s)
  unchanged_of (Ok (worker.Did x n)) a = tt
  unchanged_of (Ok (worker.Seen version)) a = tt
  unchanged_of (Ok worker.NotNow) a = a.1
  unchanged_of (Ok worker.Busy) a = a.1
  unchanged_of (Err stop.Write) a = a.1
  unchanged_of (Err stop.Memory) a = a
  unchanged_of (Err (stop.Other cause)) a = a.1

  -- only a write fails so
  pub failed_kind : (r : Result Answered Stop) → r ≡ Err stop.Write → Answer r → kind ≡ Write
  failed_kind r e a = (subst Answer e a).0

  board_kept : (r : Result Answered Stop) → Answer r → AtBoard r → ((kind ≡ Exchange → ⊥) → after ≡ board) → OnErr r (after ≡ board)
  board_kept (Ok turn) a at others = tt
  board_kept (Err stop.Write) a at others = others (λ e. exchange_no_write kind e a.0)
  board_kept (Err stop.Memory) a at others =
      ⊎_elim
      (λ (e : kind ≡ Exchange). (at e).1)
      others
      (is_exchange kind)
  board_kept (Err (stop.Other cause)) a at others = (at a.0).2

  pub says_of : (r : Result Answered Stop) → Answer r → AtBoard r → ((kind ≡ Exchange → ⊥) → after ≡ board)
      → PostFollows (λ q. q.workers) (λ q. q.depth) (λ _ w. Unit {0}) (queues_denote o) queues_wait o s.number s.log new.log post left → new.steps ≡ steps_after s.steps kind r → Says o kind board after post left s new r s.number
  says_of r a at others mail keeps = record {
    did = did_of r a;
    saw = saw_of r a;
    shown = shown_of r a at;
    not_now = not_now_of r a;
    same = same_of r at;
    busy = busy_of r a at;
    unchanged = unchanged_of r a;
    follows = mail.follows;
    messages = mail.messages;
    workers = mail.keeps.same_workers;
    depth = mail.keeps.same_depth;
    others = others;
    kept = board_kept r a at others;
    keeps = keeps;
  }

-- What a worker's step says of the bytes of a sink
pub record Writes {Cell : Type 0} (q : QueryFacts Cell) (job : JobFacts) (kind : Kind) (s : WorkerState) (written now : Option (List ℕ)) (r : Result Answered Stop) : Type 0 where
  pub others : (kind ≡ Write → ⊥) → now ≡ written
  pub lines : IfDid r (λ told. kind ≡ Write → now ≡ grown written (lines_of_time q job.events told.first))
  pub nothing : IfNotNow r (now ≡ written)
  pub part : OnErr r ((now ≡ written) ⊎ WritesPart q job s written now)

module _ {Cell S : Type 0} (q : QueryFacts Cell) (job : JobFacts) (written : S → Option (List ℕ)) (faults : S → ℕ) (kind : Kind) (s : WorkerState) (old new : S) where
  abbrev InTurn : Result Answered Stop → Type 0
  InTurn r = kind ≡ Write → WritesInTurn q job written faults s old new r

  lines_of : (r : Result Answered Stop) → InTurn r → IfDid r (λ told. kind ≡ Write → written new ≡ grown (written old) (lines_of_time q job.events told.first))
  lines_of (Ok (worker.Did x n)) w = λ e. (w e).0
  lines_of r w = tt

  nothing_of : (r : Result Answered Stop) → InTurn r → ((kind ≡ Write → ⊥) → new ≡ old) → IfNotNow r (written new ≡ written old)
  nothing_of (Ok worker.NotNow) w others = ap written (⊎_elim (λ (e : kind ≡ Write). w e) others (is_write kind))
  nothing_of r w others = tt

  part_of : (r : Result Answered Stop) → InTurn r → ((kind ≡ Write → ⊥) → new ≡ old) → OnErr r ((written new ≡ written old) ⊎ WritesPart q job s (written old) (written new))
  part_of (Ok turn) w others = tt
  part_of (Err stop.Write) w others = ⊎_elim (λ (e : kind ≡ Write). (w e).0) (λ (n : kind ≡ Write → ⊥). inl (ap written (others n))) (is_write kind)
  part_of (Err stop.Memory) w others = ⊎_elim (λ (e : kind ≡ Write). (w e).0) (λ (n : kind ≡ Write → ⊥). inl (ap written (others n))) (is_write kind)
  part_of (Err (stop.Other cause)) w others = ⊎_elim (λ (e : kind ≡ Write). absurd (w e)) (λ (n : kind ≡ Write → ⊥). inl (ap written (others n))) (is_write kind)

  pub writes_of : (r : Result Answered Stop) → InTurn r → ((kind ≡ Write → ⊥) → new ≡ old) → Writes q job kind s (written old) (written new) r
  writes_of r w others = record {
    others = λ n. ap written (others n);
    lines = lines_of r w;
    nothing = nothing_of r w others;
    part = part_of r w others;
  }

  silent : (r : Result Answered Stop) → (r ≡ Err stop.Write → ⊥) → WritesInTurn q job written faults s old new r → faults new ≡ faults old
  silent (Ok (worker.Did x n)) not_failed w = w.1
  silent (Ok (worker.Seen version)) not_failed w = absurd w
  silent (Ok worker.NotNow) not_failed w = ap faults w
  silent (Ok worker.Busy) not_failed w = absurd w
  silent (Err stop.Write) not_failed w = absurd (not_failed refl)
  silent (Err stop.Memory) not_failed w = w.1
  silent (Err (stop.Other cause)) not_failed w = absurd w

  -- only a write that failed counts a fault
  pub no_fault_of : (r : Result Answered Stop) → (r ≡ Err stop.Write → ⊥) → InTurn r → ((kind ≡ Write → ⊥) → new ≡ old) → faults new ≡ faults old
  no_fault_of r not_failed w others = ⊎_elim (λ (e : kind ≡ Write). silent r not_failed (w e)) (λ (n : kind ≡ Write → ⊥). ap faults (others n)) (is_write kind)

  -- a write that failed counts one, or the count stands at its last value
  pub fault_of : (r : Result Answered Stop) → r ≡ Err stop.Write → kind ≡ Write → InTurn r → Rose (faults old) (faults new)
  fault_of r e is w = (subst (WritesInTurn q job written faults s old new) e (w is)).1
