-- What workers have at the end.
use Rattle.std.specs.Prelude.{◌≡◌, ℕ, Some, List, length, slice_get}
use Rattle.mp_model.specs.Facts.{JobFacts, QueryFacts}
use Rattle.mp_msg.specs.LastStates.{AreStatesOf}
use Rattle.mp_msg.specs.States.{BinContent}
use Rattle.mp_worker_refinement.specs.State.{WorkerState}

-- To each worker, in order, belong the states of the bins that it owns at the end
pub record AreTheirStates {Cell : Type 0} (q : QueryFacts Cell) (job : JobFacts) (workers : List WorkerState) (all : List (List (ℕ × BinContent Cell))) : Type 0 where
  pub count : length all ≡ length workers
  pub each : (i : ℕ) (s : WorkerState) (states : List (ℕ × BinContent Cell)) → slice_get workers i ≡ Some s → slice_get all i ≡ Some states → AreStatesOf q job s.number states
