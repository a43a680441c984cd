-- The layout of a job: its shape, and who owns each bin at first.
use Rattle.std.specs.Prelude.{ℕ, ◌%◌, ◌<◌, cond, ◌&&◌, ◌==◌, List, [], ◌∷◌}
use Rattle.mp_names.specs.declared.controls.Control.{Control}
use Rattle.mp_names.specs.declared.controls.First.{First}
use Rattle.mp_names.specs.declared.controls.Shape.{Shape}

-- the shape of a job, and the first owners that a configuration says
pub record Layout : Type 0 where
  pub shape : Shape
  pub firsts : List First

-- there is at least one worker, bin and stage
abbrev pub IsShape : Shape → Type 0
IsShape shape = (0 < shape.workers) × (0 < shape.bins) × (0 < shape.stages)

-- the record names a worker, a bin and a stage of the job
abbrev pub IsWithin : Shape → Control → Type 0
IsWithin shape control = (control.worker < shape.workers) × (control.bin < shape.bins) × (control.stage < shape.stages)

-- a first owner is that of a worker, a bin and a stage of the job
abbrev pub FirstFits : Shape → First → Type 0
FirstFits shape first = (first.worker < shape.workers) × (first.bin < shape.bins) × (first.stage < shape.stages)

-- the first owner of a bin of a stage among these, else this worker
abbrev pub first_among : List First → ℕ → ℕ → ℕ → ℕ
first_among [] stage bin usual = usual
first_among (f ∷ fs) stage bin usual = cond (f.stage == stage && f.bin == bin) f.worker (first_among fs stage bin usual)

-- the first owner of a bin of a stage: the worker that the configuration says, else the bin's number modulo the number of workers
abbrev pub first_owner : Layout → ℕ → ℕ → ℕ
first_owner layout stage bin = first_among layout.firsts stage bin (bin % layout.shape.workers)
