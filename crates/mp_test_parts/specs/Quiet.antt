-- A job in which nothing happens.
use Rattle.std.specs.Prelude.{[]}
use Rattle.mp_job.specs.Parts.{job_of}
use Rattle.mp_model.specs.Facts.{JobFacts}
use Rattle.mp_names.specs.declared.controls.Shape.{Shape}

-- two workers with one bin
abbrev pub two_workers : Shape
two_workers = record { workers = 2; bins = 1; stages = 1 }

-- a job of theirs that has no events and no control records
abbrev pub quiet : JobFacts
quiet = job_of [] [] [] two_workers []
