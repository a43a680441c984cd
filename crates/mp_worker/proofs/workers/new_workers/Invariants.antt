use Rattle.std.proofs.Common.{◌≡◌, ◌≤◌, ℕ, All, Some, length, vec_capacity}
use Rattle.std.specs.Prelude.{slice_get}
use Rattle.mp_outline.specs.JobOutline.{outline_of}
use Rattle.mp_worker_refinement.specs.Laws.{IsNewWorker}
use Rattle.mp_worker_refinement.specs.State.{WorkerState}
use Rattle.mp_turns.specs.Keeping.{no_steps}
use Rattle.mp_worker.proofs.workers.new_workers.Given as goal
use Rattle.mp_model.specs.Tables.{table_of}

abbrev pub invariant-loop-number : goal.invariant-loop-number
invariant-loop-number g l = record {
  room : l.count ≤ vec_capacity l.workers;
  many : length l.workers.items ≡ l.number;
  new : (w : ℕ) (s : WorkerState) → slice_get l.workers.items w ≡ Some s → IsNewWorker (outline_of (table_of g.Q.Query.facts g.J.Naming.job) g.J.Naming.job) w s;
  keeps : All (λ (s : WorkerState). s.steps ≡ no_steps l.plan.keeps) l.workers.items;
}
