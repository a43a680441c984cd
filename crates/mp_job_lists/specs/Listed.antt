-- What the lists of a job hold.
use Rattle.std.specs.Prelude.{◌≡◌, ℕ, ◌≤◌, Bool, List, None, map}
use Rattle.mp_names.specs.Limits.{most_stages}
use Rattle.mp_names.specs.declared.names.Name.{Name}
use Rattle.mp_names.specs.Outlines.{OutlineIsSound, packets_of}
use Rattle.mp_names.specs.declared.controls.Control.{Control}
use Rattle.mp_names.specs.declared.controls.Shape.{Shape}
use Rattle.mp_bins.specs.Notes.{Notes}
use Rattle.mp_model.specs.Facts.{JobFacts, QueryFacts}
use Rattle.mp_model.specs.Stages.{stage_records}
use Rattle.mp_job.specs.Legal.{JobIsLegal}
use Rattle.mp_job_owners.specs.Told.{TellOwners}
use Rattle.mp_outline.specs.JobOutline.{layout_of, outline_of, row_names}
use Rattle.mp_job_lists.specs.Folded.{names_below}

-- the job has no stop time and goes on from no checkpoint
pub record IsWhole (job : JobFacts) : Type 0 where
  pub until : job.until ≡ None
  pub from : job.from ≡ None

-- the shape, the control records, the names of the records by stage, what each record of the first stage posts, the rows, the packets and the owners of a legal job that is whole
pub record IsListed {Cell : Type 0} (q : QueryFacts Cell) (job : JobFacts) (shape : Shape) (controls : List Control) (paced : Bool) (records : List (List Name)) (posts : List (List ℕ)) (rows packets : List Name) (owners : Notes) : Type 0 where
  pub legal : JobIsLegal q job
  pub sound : OutlineIsSound (outline_of q job)
  pub whole : IsWhole job
  pub few_stages : job.shape.stages ≤ most_stages
  pub shape_is : shape ≡ job.shape
  pub controls_are : controls ≡ job.controls
  pub pace_is : paced ≡ job.paced
  pub records_are : records ≡ names_below q job.events job.shape.stages
  pub posts_are : posts ≡ map (q.posts 0) (stage_records q job.events 0)
  pub rows_are : rows ≡ row_names q job
  pub packets_are : packets ≡ packets_of (outline_of q job)
  pub layout_is : owners.layout ≡ layout_of job
  pub told : TellOwners (outline_of q job) owners
