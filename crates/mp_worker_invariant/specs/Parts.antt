-- What the parts of a worker hold, and that they hold what its log says.
use Rattle.std.specs.Prelude.{◌≡◌, ◌↔◌, ℕ, ◌<◌, List, [], ◌++◌, get_or, length, map}
use Rattle.mp_names.specs.declared.names.Name.{Name}
use Rattle.mp_names.specs.declared.names.Name.TheVariants.{Ctrl}
use Rattle.mp_names.specs.Keeping.{IsHeld}
use Rattle.mp_names.specs.Logs.{Log, LogIsLegal}
use Rattle.mp_names.specs.Names.{Distinct, has, In, is_row}
use Rattle.mp_stamps.specs.declared.seen.Seen.{Seen}
use Rattle.mp_stamps.specs.Seen.{SeenIsDone}
use Rattle.mp_bins.specs.Laws.{AreNotesOf}
use Rattle.mp_bins.specs.Notes.{Notes, is_noted}
use Rattle.mp_model.specs.declared.record.Output.{Output}
use Rattle.mp_model.specs.Facts.{JobFacts, QueryFacts}
use Rattle.mp_outline.specs.JobOutline.{layout_of, name_of_row, outline_of}
use Rattle.mp_controller.specs.Controlling.{Controlling}
use Rattle.mp_controller.specs.Telling.{IsControllerOf}
use Rattle.mp_route.specs.Routed.{Routed}
use Rattle.mp_route.specs.Unsent.{HoldsUnsent}
use Rattle.mp_output.specs.Holding.{HoldsUnwritten}
use Rattle.mp_host_laws.specs.Hosted.{Hosted}
use Rattle.mp_host_laws.specs.HostOf.{IsHostOf}
use Rattle.mp_handoff.specs.MoversState.{MoversState}
use Rattle.mp_handoff.specs.MoversOf.{IsMoversOf}

-- a worker's number, its log, the log that it posted last, and what it saw; the control records that it noted, and on worker 0 what it knows of those that it has to send; by stage its routers, hosts and movers; the answer rows that it has to send, and those that it has to write
pub record Parts (Cell : Type 0) : Type 0 where
  pub number : ℕ
  pub log : Log
  pub posted : Log
  pub seen : Seen
  pub notes : Notes
  pub controller : Controlling
  pub routers : List Routed
  pub hosts : List (Hosted Cell)
  pub movers : List MoversState
  pub unsent : List Output
  pub unwritten : List Output

-- P holds of each item and its place
abbrev pub AtEach : {X : Type 0} → List X → (ℕ → X → Type 0) → Type 0
AtEach {X} xs P = (j : ℕ) (d : X) → j < length xs → P j (get_or xs j d)

-- Just the control records that the worker took are noted
pub record AreTaken (job : JobFacts) (w : ℕ) (log : Log) (notes : Notes) : Type 0 where
  pub layout : notes.layout ≡ layout_of job
  pub of_job : AreNotesOf job.controls notes
  pub taken : (i : ℕ) → is_noted notes.noted i ≡ has log.took (Ctrl i w)

module _ {Cell : Type 0} (q : QueryFacts Cell) (job : JobFacts) where
  -- the rows are those that are unsent by the log, but for those of these names, which are unsent too; each once
  pub record HoldsRowsBut (w : ℕ) (log : Log) (rest : List Name) (rows : List Output) : Type 0 where
    pub once : Distinct (rest ++ map name_of_row rows)
    pub unsent : (x : Name) → (In x (rest ++ map name_of_row rows) ↔ IsHeld (outline_of q job) w log is_row x)

  -- a router of this stage holds what the worker's log says
  abbrev pub IsRouterAt : ℕ → Log → ℕ → Routed → Type 0
  IsRouterAt w log j r = (r.stage ≡ j) × HoldsUnsent q job w log r

  -- a host of this worker and stage does
  abbrev pub IsHostAt : ℕ → Log → ℕ → Hosted Cell → Type 0
  IsHostAt w log j h = (h.stage ≡ j) × (h.worker ≡ w) × IsHostOf q job log h

  -- movers of this worker and stage do
  abbrev pub AreMoversAt : ℕ → Log → ℕ → MoversState → Type 0
  AreMoversAt w log j m = (m.stage ≡ j) × (m.worker ≡ w) × IsMoversOf (outline_of q job) log m

  -- Each part holds what the log says
  pub record ArePartsOf (p : Parts Cell) : Type 0 where
    pub worker : p.number < job.shape.workers
    pub legal : LogIsLegal (outline_of q job) p.number p.log
    pub done : SeenIsDone (outline_of q job) p.number p.log p.seen
    pub notes : AreTaken job p.number p.log p.notes
    pub controller : p.number ≡ 0 → IsControllerOf (outline_of q job) p.log p.controller
    pub all_routers : length p.routers ≡ job.shape.stages
    pub routers : AtEach p.routers (IsRouterAt p.number p.log)
    pub all_hosts : length p.hosts ≡ job.shape.stages
    pub hosts : AtEach p.hosts (IsHostAt p.number p.log)
    pub all_movers : length p.movers ≡ job.shape.stages
    pub movers : AtEach p.movers (AreMoversAt p.number p.log)
    pub unsent : HoldsRowsBut p.number p.log [] p.unsent
    pub unwritten : HoldsUnwritten p.log p.unwritten
