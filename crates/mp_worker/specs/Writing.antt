-- What a step leaves of the answer in a sink.
use Rattle.std.specs.Prelude.{◌≡◌, ℕ, List, Ok, Err, Option}
use Rattle.std.specs.declared.result.Result.{Result}
use Rattle.mp_outside.specs.Fault.{Rose}
use Rattle.mp_model.specs.Facts.{JobFacts, QueryFacts}
use Rattle.mp_worker_refinement.specs.State.{WorkerState}
pub use Rattle.mp_worker_steps.specs.Writing.{WritesNoMore, WritesPart, WritesTime}
use Rattle.mp_turns.specs.declared.turn.Turn.{Turn}
use Rattle.mp_turns.specs.declared.turn.Turn.TheVariants as turn
use Rattle.mp_turns.specs.declared.turn.Stop.{Stop}
use Rattle.mp_turns.specs.declared.turn.Stop.TheVariants as stop

module _ {Cell S : Type 0} (q : QueryFacts Cell) (job : JobFacts) (written : S → Option (List ℕ)) (faults : S → ℕ) (s : WorkerState) (old new : S) where
  -- what a write came to, by the answer of a step: all lines of a time, or nothing; or no more than a part, where a write failed or there was no memory. Only one that failed counts a fault
  abbrev pub WritesInTurn : Result Turn Stop → Type 0
  WritesInTurn (Ok (turn.Did x n)) = WritesTime q job written faults s old new x × (faults new ≡ faults old)
  WritesInTurn (Ok turn.NotNow) = new ≡ old
  WritesInTurn (Err stop.Write) = WritesNoMore q job written faults s old new × Rose (faults old) (faults new)
  WritesInTurn (Err stop.Memory) = WritesNoMore q job written faults s old new × (faults new ≡ faults old)
  WritesInTurn _ = ⊥
