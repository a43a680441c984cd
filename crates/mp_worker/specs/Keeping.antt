-- What the steps that a worker keeps tell of its log.
use Rattle.std.specs.Prelude.{◌≤◌, List, Option, All, IfSome}
use Rattle.mp_names.specs.declared.kinds.Kept.{Kept}
use Rattle.mp_journal_laws.specs.Telling.{KeptTellLog}
use Rattle.mp_worker_refinement.specs.State.{WorkerState}

-- the worker with these steps as those that it keeps
abbrev pub with_steps : Option (List Kept) → WorkerState → WorkerState
with_steps steps s = record s { steps = steps }

-- where the worker keeps its steps, they are those that filled its log, and none of its exchanges saw a later version than it has seen
abbrev pub StepsTellLog : WorkerState → Type 0
StepsTellLog s = IfSome s.steps (λ kept. KeptTellLog s.log kept × All (λ (k : Kept). k.version ≤ s.seen.version) kept)
