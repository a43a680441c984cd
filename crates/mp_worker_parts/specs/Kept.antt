-- What a worker keeps to: its parts hold what its log says.
use Rattle.std.specs.Prelude.{List}
use Rattle.mp_names.specs.Logs.{Log}
use Rattle.mp_names.specs.Outlines.{OutlineIsSound}
use Rattle.mp_stamps.specs.declared.seen.Seen.{Seen}
use Rattle.mp_bins.specs.Notes.{Notes}
use Rattle.mp_model.specs.Facts.{JobFacts, QueryFacts}
use Rattle.mp_job.specs.Legal.{JobIsLegal}
use Rattle.mp_job.specs.Runs.{IsRunOf}
use Rattle.mp_outline.specs.JobOutline.{outline_of}
use Rattle.mp_rows.specs.WorkerLog.{WorkerLog}
use Rattle.mp_controller.specs.Controlling.{Controlling}
use Rattle.mp_route.specs.Routed.{Routed}
use Rattle.mp_host_laws.specs.Hosted.{Hosted}
use Rattle.mp_handoff.specs.MoversState.{MoversState}
use Rattle.mp_output.specs.Rows.{GivesRows}
use Rattle.mp_output.specs.Unwritten.{Unwritten}
use Rattle.mp_worker_invariant.specs.Parts.{ArePartsOf, Parts}
use Rattle.mp_model.specs.QueryLaws.{LaterStagesPostNothing, PostsAreLater}

-- Posts are later, and of the first stage
pub record HandsOn {Cell : Type 0} (q : QueryFacts Cell) : Type 0 where
  pub later : PostsAreLater q
  pub nothing : LaterStagesPostNothing q

-- the parts of a worker
abbrev pub parts_with : {Cell : Type 0} → WorkerLog → Log → Seen → Notes → Controlling → List Routed → List (Hosted Cell) → List MoversState → Unwritten → Unwritten → Parts Cell
parts_with log posted seen notes controller routers hosts movers unsent unwritten =
    record {
      number = log.worker;
      log = log.log;
      posted = posted;
      seen = seen;
      notes = notes;
      controller = controller;
      routers = routers;
      hosts = hosts;
      movers = movers;
      unsent = unsent.rows;
      unwritten = unwritten.rows;
    }

-- It is of a run of the job that it was made for, which is legal and whose last stage gives rows; and its parts hold what its log says
pub record IsKept {Cell : Type 0} (q : QueryFacts Cell) (job its : JobFacts) (p : Parts Cell) : Type 0 where
  pub run : IsRunOf its job
  pub legal : JobIsLegal q job
  pub rows : GivesRows q
  pub sound : OutlineIsSound (outline_of q job)
  pub hands_on : HandsOn q
  pub parts : ArePartsOf q job p
