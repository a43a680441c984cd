-- A run of a job, which may be paced.
use Rattle.std.specs.Prelude.{◌≡◌}
use Rattle.mp_model.specs.Facts.{JobFacts}

-- the second is a run of the first: the same job but for whether its control records go out paced
abbrev pub IsRunOf : JobFacts → JobFacts → Type 0
IsRunOf its job = record its { paced = job.paced } ≡ job
