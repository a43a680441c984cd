-- What a job holds.
use Rattle.std.specs.Prelude.{◌≡◌, [], ◌≤◌, ℕ, Option, None, Some, false, List, length}
use Rattle.mp_names.specs.declared.controls.Control.{Control}
use Rattle.mp_names.specs.declared.controls.First.{First}
use Rattle.mp_names.specs.declared.controls.Shape.{Shape}
use Rattle.mp_model.specs.declared.record.Event.{Event}
use Rattle.mp_names.specs.Limits.{most_bytes}
use Rattle.mp_model.specs.Facts.{QueryFacts, JobFacts, SavedState}
use Rattle.mp_model.specs.Tables.{table_of}
use Rattle.mp_opening.specs.Checkpoints.{saved_in}
use Rattle.mp_opening.specs.Openings.{MayOpen, OpeningOf}
use Rattle.mp_job.specs.Legal.{JobIsLegal}
use Rattle.mp_job.specs.Records.{shares_of}
use Rattle.mp_job.specs.Times.{post_times_of, times_of}

-- what is told of a job that is made of these
abbrev pub job_of : List ℕ → List Event → List Control → Shape → List First → JobFacts
job_of values events controls shape firsts = record {
  values = values;
  events = events;
  controls = controls;
  shape = shape;
  firsts = firsts;
  paced = false;
  until = None;
  from = None;
}

-- what is told of one that stops at a time and goes on from a state, if they are given
abbrev pub job_in : List ℕ → List Event → List Control → Shape → List First → Option ℕ → Option SavedState → JobFacts
job_in values events controls shape firsts stop saved = record (job_of values events controls shape firsts) { until = stop; from = saved }

module _ {Cell : Type 0} where
  -- the state that a job goes on from, as the checkpoint with its bins says it
  abbrev pub saved_of : (ℕ → Cell → List ℕ) → Option (OpeningOf Cell) → Option SavedState
  saved_of text None = None
  saved_of text (Some o) = Some (saved_in text o.from)

  -- the table of a query in every job that stops at this time and goes on from this checkpoint, if they are given
  abbrev pub table_in : (List ℕ → QueryFacts Cell) → (ℕ → Cell → List ℕ) → List ℕ → Option ℕ → Option (OpeningOf Cell) → QueryFacts Cell
  table_in facts text values stop opening = table_of facts (job_in values [] [] (record { workers = 0; bins = 0; stages = 0 }) [] stop (saved_of text opening))

  -- a job may go on from the checkpoint, if there is one, and it is cut into so many bins and has no more wakes than a job may
  abbrev pub OpeningFits : QueryFacts Cell → ℕ → Option (OpeningOf Cell) → Type 0
  OpeningFits q bins None = Unit {0}
  OpeningFits q bins (Some o) = MayOpen q o.from × (o.bins ≡ bins) × (length o.from.wakes ≤ most_bytes)

  -- a legal job, with its shares, its times, how many times records post and wakes have, and the checkpoint that it goes on from
  pub record HoldsParts (q : QueryFacts Cell) (job : JobFacts) (shares : List (List ℕ)) (times : List ℕ) (post_times : ℕ) (opening : Option (OpeningOf Cell)) : Type 0 where
    pub legal : JobIsLegal q job
    pub opens : OpeningFits q job.shape.bins opening
    pub shares_are : shares ≡ shares_of q job.events job.shape.workers
    pub times_are : times ≡ times_of q job.events job.controls
    pub posts_are : post_times ≡ length (post_times_of q job.events)
