-- The outline of a run of a job is the job's, but for whether it is paced.
use Rattle.std.proofs.Common.{◌≡◌, ℕ, List, ap}
use Rattle.mp_model.specs.Facts.{JobFacts, QueryFacts}
use Rattle.mp_model.specs.Tables.{table_of}
use Rattle.mp_job.specs.Runs.{IsRunOf}
use Rattle.mp_outline.specs.JobOutline.{outline_of}

pub run_outline : {Cell : Type 0} (facts : List ℕ → QueryFacts Cell) (its job : JobFacts) → IsRunOf its job → record (outline_of (table_of facts its) its) { paced = job.paced } ≡ outline_of (table_of facts job) job
run_outline facts its job run = ap (λ (f : JobFacts). outline_of (table_of facts f) f) run
