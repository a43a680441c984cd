-- Workers on one thread that have made no step.
use Rattle.std.specs.Prelude.{◌≡◌, ℕ, [], All, Bool}
use Rattle.mp_model.specs.Facts.{JobFacts, QueryFacts}
use Rattle.mp_outline.specs.JobOutline.{outline_of}
use Rattle.mp_machine.specs.Worlds.{start_of_machine}
use Rattle.mp_worker_refinement.specs.State.{WorkerState}
use Rattle.mp_worker_refinement.specs.SystemState.{Refines}
use Rattle.mp_worker.specs.Below.{no_steps}
use Rattle.mp_plain.specs.Driven.{Driven, lines_of}

-- They are at the start of the machine, with mailboxes of this depth. None has made a step, worker 0 has written nothing; and each keeps its steps, or none does
pub record AreOpened {Cell : Type 0} (q : QueryFacts Cell) (job : JobFacts) (depth : ℕ) (keeps : Bool) (p : Driven) : Type 0 where
  pub start : Refines (outline_of q job) depth p.state (start_of_machine (outline_of q job))
  pub mailboxes : p.state.post.depth ≡ depth
  pub made : p.made ≡ 0
  pub nothing_written : lines_of q job.events p.state ≡ []
  pub keeps_so : All (λ (s : WorkerState). s.steps ≡ no_steps keeps) p.state.workers
