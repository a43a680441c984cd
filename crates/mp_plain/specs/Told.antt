-- What workers on one thread tell of what they have done.
use Rattle.std.specs.Prelude.{◌≡◌, ℕ, List, Some, length, slice_get}
use Rattle.mp_model.specs.Facts.{JobFacts, QueryFacts}
use Rattle.mp_tally.specs.declared.tally.Tally.{Tally}
use Rattle.mp_tally.specs.Tallies.{TellsLog}
use Rattle.mp_worker_refinement.specs.State.{WorkerState}

-- There is a tally of each worker, which says what that worker's log has
pub record TellLogs {Cell : Type 0} (q : QueryFacts Cell) (job : JobFacts) (workers : List WorkerState) (tallies : List Tally) : Type 0 where
  pub all : length tallies ≡ job.shape.workers
  pub each : (w : ℕ) (s : WorkerState) (t : Tally) → slice_get workers w ≡ Some s → slice_get tallies w ≡ Some t → TellsLog q job s.log t
