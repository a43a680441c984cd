-- What a job may be made of.
use Rattle.std.specs.Prelude.{◌≡◌, ◌<◌, ◌≤◌, ℕ, true, false, Option, None, Some, List, [], All, AllPairs, length}
use Rattle.mp_names.specs.declared.controls.Control.{Control}
use Rattle.mp_names.specs.declared.controls.First.{First}
use Rattle.mp_names.specs.declared.controls.Shape.{Shape}
use Rattle.mp_names.specs.Limits.{greatest_time, most_bins, most_controls, most_workers}
use Rattle.mp_names.specs.Outlines.{is_before_stop}
use Rattle.mp_model.specs.declared.value.Value.{Value}
use Rattle.mp_model.specs.Entry.{Entry}
use Rattle.mp_model.specs.Facts.{QueryFacts, JobFacts}
use Rattle.mp_model.specs.Legal.{EventsAreLegal}
use Rattle.mp_model.specs.QueryLaws.{SavedFits}
use Rattle.mp_model.specs.Tables.{counts, opening_cell, opening_wakes}
use Rattle.mp_opening.specs.Below.{IsBinCount}
use Rattle.mp_opening.specs.Below.{FirstFits, IsWithin}

-- there is a worker, the bins are a power of two, and there are not too many of either
pub record ShapeIsLegal (shape : Shape) : Type 0 where
  pub some_worker : 0 < shape.workers
  pub few_workers : shape.workers ≤ most_workers
  pub few_bins : shape.bins ≤ most_bins
  pub bins : IsBinCount shape.bins

-- a control record names a worker, a bin and a stage of the shape, and isn't too late
pub record ControlFits (shape : Shape) (control : Control) : Type 0 where
  pub in_time : control.time ≤ greatest_time
  pub within : IsWithin shape control

-- each control record does, and there are not too many
pub record ControlsFit (shape : Shape) (controls : List Control) : Type 0 where
  pub few : length controls ≤ most_controls
  pub each : All (ControlFits shape) controls

-- each first owner names a worker, a bin and a stage of the shape, and no bin of a stage stands twice
pub record FirstsFit (shape : Shape) (firsts : List First) : Type 0 where
  pub each : All (FirstFits shape) firsts
  pub once : AllPairs (λ f g. (f.stage ≡ g.stage) × (f.bin ≡ g.bin) → ⊥) firsts

-- the stop time, if there is one, is later than 0 and no later than an event may be
abbrev pub StopFits : Option ℕ → Type 0
StopFits None = Unit {0}
StopFits (Some stop) = (0 < stop) × (stop ≤ greatest_time)

-- The table is one of the job's: events that have a key are of times that count, groups from the stop time on give nothing, and the cells and wakes that stages begin with are those that the job goes on from
pub record KeepsToJob {Cell : Type 0} (q : QueryFacts Cell) (job : JobFacts) : Type 0 where
  pub keys : (t : ℕ) (v : Value) (k : ℕ) → q.key 0 t v ≡ Some k → counts job t ≡ true
  pub gives : (j : ℕ) (cell : Cell) (e : Entry) → is_before_stop job.until e.time ≡ false → q.gives j cell e ≡ []
  pub opening : (j k : ℕ) → q.opening j k ≡ opening_cell q job.from j k
  pub waking : (j : ℕ) → q.waking j ≡ opening_wakes job.from j

-- all that a job is made of is within its limits, and the table with its stages is the job's
pub record JobIsLegal {Cell : Type 0} (q : QueryFacts Cell) (job : JobFacts) : Type 0 where
  pub shape : ShapeIsLegal job.shape
  pub stages : job.shape.stages ≡ q.stages
  pub table : KeepsToJob q job
  pub events : EventsAreLegal job.events
  pub controls : ControlsFit job.shape job.controls
  pub firsts : FirstsFit job.shape job.firsts
  -- control records of other times aren't in the list
  pub controls_count : All (λ c. counts job c.time ≡ true) job.controls
  pub stop : StopFits job.until
  pub saved : SavedFits q job.from
