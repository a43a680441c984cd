-- Workers that take turns run the machine.
use Rattle.std.specs.Prelude.{◌≡◌, ◌↔◌, ℕ, ◌<◌, ◌≤◌, List, Some, length, replicate, slice_get}
use Rattle.mp_names.specs.declared.kinds.Kind.{Kind}
use Rattle.mp_names.specs.declared.kinds.Kind.TheVariants.{Exchange}
use Rattle.mp_names.specs.declared.names.Name.{Name}
use Rattle.mp_names.specs.Frontiers.{log_at}
use Rattle.mp_names.specs.Outlines.{Outline, OutlineIsSound}
use Rattle.mp_names.specs.Logs.{LogGrows, LogIsLegal, empty_log}
use Rattle.mp_stamps.specs.declared.seen.Seen.{Seen}
use Rattle.mp_mailbox.specs.Queues.{HadRoom, Queues, WasEmpty, WasFull, empty_queues}
use Rattle.mp_machine.specs.Worlds.{World, start_of_machine}
use Rattle.mp_machine.specs.Runs.{Did, NotNow, Saw, WorkerIsFinished, run_of_machine, step_of_machine, turn_of_machine}
use Rattle.mp_stamps.specs.Seen.{SeenIsDone}
use Rattle.mp_msg.specs.declared.names.Names.{Names}
use Rattle.mp_board.specs.Boards.{ShowsFrontiers, exchanged}
use Rattle.mp_worker_refinement.specs.Ends.{PostMatchesLog, FollowsLog, MessagesFollowLog}
use Rattle.mp_worker_refinement.specs.Mail.{MailboxBlocks, MailboxAllows}
use Rattle.mp_worker_refinement.specs.State.{CanMake, Makes, WorkerState}
use Rattle.mp_worker_refinement.specs.Steps.{Sees, Tells}
use Rattle.mp_worker_refinement.specs.SystemState.{Refines, KnowsTheEnd, SystemState, queues_denote, queues_wait, with_worker}

-- The mailboxes after a step of a worker: what they stand for and what waits in them follows its log, which may have the names of one message more
pub record MailFollows (o : Outline) (w : ℕ) (old : Queues (List Name)) (before after : WorkerState) (new : Queues (List Name)) : Type 0 where
  pub workers : new.workers ≡ old.workers
  pub depth : new.depth ≡ old.depth
  pub follows : FollowsLog (queues_denote o old) (queues_denote o new) o w before.log after.log
  pub messages : MessagesFollowLog (queues_wait old) (queues_wait new) o w before.log after.log

-- What a worker says of its step is the turn of the machine
pub record StepsRefineMachine (o : Outline) (depth : ℕ) (t : SystemState) (world : World) : Type 0 where
  -- names were put into the log
  pub did : (w : ℕ) (kind : Kind) (told : Names) (xs : List Name) (old new : WorkerState) (post : Queues (List Name))
      → slice_get t.workers w ≡ Some old → Tells told xs → Makes o kind old xs new → MailboxAllows (HadRoom t.post) o w kind xs → MailFollows o w t.post old new post
      → (turn_of_machine o depth world w kind ≡ Did told.first told.count) × Refines o depth (with_worker t w new post) (step_of_machine o depth world w kind)
  -- no step of this kind could be made, or a mailbox was in the way
  pub not_now : (w : ℕ) (kind : Kind) (s : WorkerState) (post : Queues (List Name))
      → slice_get t.workers w ≡ Some s → (kind ≡ Exchange → ⊥) → ((x : Name) → CanMake o kind s x → MailboxBlocks (WasFull t.post) (WasEmpty t.post) o w kind x) → MailFollows o w t.post s s post
      → (turn_of_machine o depth world w kind ≡ NotNow) × Refines o depth (with_worker t w s post) world
  -- an exchange saw a version that is new to the worker
  pub saw : (w : ℕ) (s new : WorkerState) (post : Queues (List Name)) → let board = exchanged t.board w s.log in
      slice_get t.workers w ≡ Some s → Sees s board.version new → ShowsFrontiers o board.logs new.seen → MailFollows o w t.post s s post
      → (turn_of_machine o depth world w Exchange ≡ Saw board.version) × Refines o depth (record (with_worker t w new post) { board = board }) (step_of_machine o depth world w Exchange)
  -- an exchange saw the version that the worker had seen: it changed nothing
  pub saw_nothing : (w : ℕ) (s : WorkerState) (post : Queues (List Name)) → let board = exchanged t.board w s.log in
      slice_get t.workers w ≡ Some s → board.version ≡ s.seen.version → MailFollows o w t.post s s post
      → (turn_of_machine o depth world w Exchange ≡ NotNow) × (board ≡ t.board) × Refines o depth (with_worker t w s post) world

-- What a worker may be sure of before its step
pub record StepsMayBeAsked (o : Outline) (t : SystemState) : Type 0 where
  pub fits : (w : ℕ) (s : WorkerState) → slice_get t.workers w ≡ Some s → (w < o.workers) × (s.number ≡ w)
  pub ends : (w : ℕ) (s : WorkerState) → slice_get t.workers w ≡ Some s → PostMatchesLog (queues_denote o t.post) o w s.log
  pub posted : (w : ℕ) (s : WorkerState) → slice_get t.workers w ≡ Some s → log_at t.board.logs w ≡ s.posted
  pub grows : (w : ℕ) (s : WorkerState) → slice_get t.workers w ≡ Some s → LogGrows s.posted s.log
  pub legal : (w : ℕ) (s : WorkerState) → slice_get t.workers w ≡ Some s → LogIsLegal o w s.log
  -- no worker knows of a later version than the board's
  pub version : (w : ℕ) (s : WorkerState) → slice_get t.workers w ≡ Some s → s.seen.version ≤ t.board.version

-- P holds of workers that take turns, and of the state of the machine that they are in, wherever a run comes
abbrev pub WhereverTheyAre : (Outline → ℕ → SystemState → World → Type 0) → Type 0
WhereverTheyAre P =
    (o : Outline) (depth : ℕ) (steps : List (ℕ × Kind)) (t : SystemState)
    → OutlineIsSound o
    → Refines o depth t (run_of_machine o depth steps)
    → P o depth t (run_of_machine o depth steps)

abbrev pub StepsAlwaysRefine : Type 0
StepsAlwaysRefine = WhereverTheyAre StepsRefineMachine

abbrev pub StepsMayAlwaysBeAsked : Type 0
StepsMayAlwaysBeAsked = WhereverTheyAre (λ o depth t world. StepsMayBeAsked o t)

-- what the board shows at the opening is true of every empty log
abbrev pub OpeningIsTold : Type 0
OpeningIsTold =
    (o : Outline) (w : ℕ) (seen : Seen) → OutlineIsSound o → w < o.workers → ShowsFrontiers o (replicate o.workers empty_log) seen → SeenIsDone o w empty_log seen

-- a worker that has done nothing, and saw what the opening board shows
pub record IsNewWorker (o : Outline) (w : ℕ) (s : WorkerState) : Type 0 where
  pub number : s.number ≡ w
  pub log : s.log ≡ empty_log
  pub posted : s.posted ≡ empty_log
  pub version : s.seen.version ≡ 0
  pub seen : ShowsFrontiers o (replicate o.workers empty_log) s.seen

-- with such workers, an opening board and empty mailboxes the machine begins
abbrev pub OpeningIsTheStart : Type 0
OpeningIsTheStart =
    (o : Outline) (depth : ℕ) (t : SystemState)
    → OutlineIsSound o
    → length t.workers ≡ o.workers
    → ((w : ℕ) (s : WorkerState) → slice_get t.workers w ≡ Some s → IsNewWorker o w s)
    → t.board.logs ≡ replicate o.workers empty_log
    → t.board.version ≡ 0
    → t.post ≡ empty_queues o.workers depth
    → Refines o depth t (start_of_machine o)

-- a worker that knows the end is finished as the machine has it, and one that is finished so knows it
abbrev pub EndsAreKnown : Type 0
EndsAreKnown =
    (o : Outline) (depth : ℕ) (t : SystemState) (world : World) (w : ℕ) (s : WorkerState)
    → Refines o depth t world
    → slice_get t.workers w ≡ Some s
    → (KnowsTheEnd o s ↔ WorkerIsFinished o world w)
