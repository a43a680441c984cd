-- What workers on one thread keep to.
use Rattle.std.specs.Prelude.{◌≡◌, ℕ, List, None}
use Rattle.mp_names.specs.declared.names.Name.{Name}
use Rattle.mp_model.specs.Facts.{JobFacts, QueryFacts}
use Rattle.mp_job.specs.Legal.{JobIsLegal}
use Rattle.mp_job.specs.Runs.{IsRunOf}
use Rattle.mp_outline.specs.JobOutline.{outline_of}
use Rattle.mp_mailbox.specs.Queues.{Queues}
use Rattle.mp_board.specs.Boards.{Posted}
use Rattle.mp_worker_refinement.specs.State.{WorkerState}
use Rattle.mp_worker_refinement.specs.SystemState.{SystemState}
use Rattle.mp_plain.specs.Driven.{AreReached, AreReachedBy}

-- the workers, their board and their mailboxes
abbrev pub together : List WorkerState → Posted → Queues (List Name) → SystemState
together workers board post = record { workers = workers; board = board; post = post }

-- They are of a run of the job that they were made for, which is legal; a run of the machine leads to where they are, and one
-- of which so many steps are made; none has stopped
pub record IsKept {Cell : Type 0} (q : QueryFacts Cell) (job its : JobFacts) (t : SystemState) (made : ℕ) : Type 0 where
  pub run : IsRunOf its job
  pub legal : JobIsLegal q job
  pub reached : AreReached (outline_of q job) t
  pub counted : AreReachedBy (outline_of q job) t made
  pub goes_on : t.board.stopped ≡ None
