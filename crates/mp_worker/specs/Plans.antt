-- How the workers of a job may be run.
use Rattle.std.specs.Prelude.{◌≡◌, Bool}
use Rattle.mp_model.specs.Facts.{JobFacts, QueryFacts}
use Rattle.mp_job.specs.Runs.{IsRunOf}
use Rattle.mp_output.specs.Rows.{GivesRows}

-- The second is a run of the first job, paced or not; and the last stage of its query gives rows alone
pub record MayRun {Cell : Type 0} (q : QueryFacts Cell) (its job : JobFacts) (paced : Bool) : Type 0 where
  pub run : IsRunOf its job
  pub pace : job.paced ≡ paced
  pub rows : GivesRows q
