-- What driving workers on one thread does: a run of the machine, and the lines of the answer in a sink.
use Rattle.std.specs.Prelude.{◌≡◌, ◌⊎◌, ℕ, List, [], ◌∷◌, ◌++◌, All, Option, Some, Result, Ok, Err, slice_get}
use Rattle.std.specs.Option.{option_map_or}
use Rattle.mp_names.specs.declared.kinds.Kept.{Kept}
use Rattle.mp_names.specs.declared.kinds.Kind.{Kind}
use Rattle.mp_names.specs.declared.kinds.Kind.TheVariants.{Write}
use Rattle.mp_names.specs.Outlines.{Outline}
use Rattle.mp_names.specs.Logs.{Log, empty_log}
use Rattle.mp_outside.specs.Sink.{grown}
use Rattle.mp_model.specs.declared.record.Event.{Event}
use Rattle.mp_model.specs.Facts.{QueryFacts}
use Rattle.mp_machine.specs.Promises.{LogIsFull}
use Rattle.mp_machine.specs.Runs.{Turn, Did, IsFinished, NotNow, Saw, made_count, run_of_machine, turns_of}
use Rattle.mp_machine.specs.Worlds.{start_of_machine}
use Rattle.mp_journal_laws.specs.Kept.{kept_of}
use Rattle.mp_worker_refinement.specs.State.{WorkerState}
use Rattle.mp_worker_refinement.specs.SystemState.{Refines, KnowsTheEnd, SystemState}
use Rattle.mp_answer_laws.specs.Lines.{HasBegun, written_lines}
use Rattle.mp_worker.specs.Below.{Turn as Answered}
use Rattle.mp_worker.specs.Below.turn as worker
use Rattle.mp_board.specs.declared.causes.Cause.{Cause}
use Rattle.mp_plain.specs.Journals.{HaveKept, journal_at, with_more}

-- Workers on one thread: their state, and how many steps were made on them
pub record Driven : Type 0 where
  pub state : SystemState
  pub made : ℕ

-- steps, each a worker and a kind
abbrev pub Steps : Type 0
Steps = List (ℕ × Kind)

-- what a worker answers, as the machine's turn; `Busy`, which is none of its turns, never comes here
abbrev pub turn_in : Answered → Turn
turn_in (worker.Did x n) = Did x n
turn_in (worker.Seen version) = Saw version
turn_in _ = NotNow

-- how many steps are made where this is answered: one or none
abbrev pub made_by : Result Answered Cause → ℕ
made_by (Ok turn) = made_count (turn_in turn ∷ [])
made_by (Err _) = 0

-- after these steps the workers are in the state of the machine's run
abbrev pub AreAfter : Outline → Steps → SystemState → Type 0
AreAfter o steps t = Refines o t.post.depth t (run_of_machine o t.post.depth steps)

-- some steps lead to the state of the workers
abbrev pub AreReached : Outline → SystemState → Type 0
AreReached o t = (steps : Steps) × AreAfter o steps t

-- some steps lead to the state of the workers, so many of which are made; and each worker that keeps its steps has kept its own of them
abbrev pub AreReachedBy : Outline → SystemState → ℕ → Type 0
AreReachedBy o t n = (steps : Steps) × AreAfter o steps t × (made_count (turns_of o t.post.depth (start_of_machine o) steps) ≡ n) × HaveKept o steps t

-- some steps lead to the state of the workers, and this is what is kept of them by one worker
abbrev pub IsJournalOf : Outline → SystemState → ℕ → List Kept → Type 0
IsJournalOf o t w kept = (steps : Steps) × AreAfter o steps t × (kept ≡ kept_of o t.post.depth (start_of_machine o) steps w)

-- Whatever steps led to the old state, these lead on to the new one, with these turns; and each worker that keeps its steps has kept its own of them behind what it had
pub record LeadsOn (o : Outline) (steps : Steps) (turns : List Turn) (old new : SystemState) : Type 0 where
  pub turns_are : (before : Steps) → AreAfter o before old
      → turns ≡ turns_of o old.post.depth (run_of_machine o old.post.depth before) steps
  pub state_is : (before : Steps) → AreAfter o before old → AreAfter o (before ++ steps) new
  pub depth : new.post.depth ≡ old.post.depth
  pub journals : (before : Steps) → AreAfter o before old
      → (w : ℕ) → journal_at new w ≡ with_more (journal_at old w) (kept_of o old.post.depth (run_of_machine o old.post.depth before) steps w)

-- each worker knows that all is over
abbrev pub AllKnowTheEnd : Outline → SystemState → Type 0
AllKnowTheEnd o t = All (KnowsTheEnd o) t.workers

-- each worker's log is full: all that it has to do is done
abbrev pub AllAreFull : Outline → SystemState → Type 0
AllAreFull o t = (w : ℕ) (s : WorkerState) → slice_get t.workers w ≡ Some s → LogIsFull o w s.log

-- a run of the machine leads to the state of the workers, and all is over after it
abbrev pub AreComplete : Outline → SystemState → Type 0
AreComplete o t = (steps : Steps) × AreAfter o steps t × IsFinished o (run_of_machine o t.post.depth steps)

-- the log of worker 0
abbrev pub first_log : SystemState → Log
first_log t = option_map_or (λ s. s.log) (slice_get t.workers 0) empty_log

module _ {Cell : Type 0} (q : QueryFacts Cell) (events : List Event) where
  -- the lines that worker 0 has written
  abbrev pub lines_of : SystemState → List ℕ
  lines_of t = written_lines q events (first_log t)

  -- on top of what was there before, those lines stand
  abbrev pub HasWritten : Option (List ℕ) → SystemState → Option (List ℕ) → Type 0
  HasWritten before t now = now ≡ grown before (lines_of t)

  -- what stands in a sink after a step of this kind was refused: the lines that worker 0 has written; only a write may have begun the next ones
  abbrev pub HasKept : Kind → Option (List ℕ) → SystemState → Option (List ℕ) → Type 0
  HasKept kind before t now = HasWritten before t now ⊎ ((kind ≡ Write) × HasBegun q events before now)
