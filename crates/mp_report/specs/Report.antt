-- The report of a job: its moves, each with how many keys moved, and then how many groups each worker owns. No run, worker's log or schedule is in it.
use Rattle.std.specs.Prelude.{◌≡◌, ℕ, ◌++◌, List, All, Option, flat_map, length, take}
use Rattle.mp_names.specs.declared.controls.Move.{Move}
use Rattle.mp_names.specs.Logs.{owned_groups}
use Rattle.mp_names.specs.Names.{joined_below}
use Rattle.mp_names.specs.Outlines.{moves_of}
use Rattle.mp_outside.specs.Sink.{grown}
use Rattle.mp_model.specs.Facts.{JobFacts, QueryFacts}
use Rattle.mp_outline.specs.JobOutline.{outline_of}
use Rattle.mp_handoff.specs.Keys.{HasKeys}
use Rattle.mp_report.specs.Lines.{line_of_move, line_of_worker}

-- the lines of moves, with these numbers of keys
abbrev pub move_lines : (Move → ℕ) → List Move → List ℕ
move_lines keys moves = flat_map (λ m. line_of_move m (keys m)) moves

-- the lines of so many workers, with these numbers of groups
abbrev pub worker_lines : (ℕ → ℕ) → ℕ → List ℕ
worker_lines groups workers = joined_below workers (λ w. line_of_worker w (groups w))

module _ {Cell : Type 0} (q : QueryFacts Cell) (job : JobFacts) where
  -- how many groups of all stages the worker owns
  abbrev pub groups_owned : ℕ → ℕ
  groups_owned w = length (joined_below job.shape.stages (owned_groups (outline_of q job) w))

  -- just before the move so many keys of its bin have a cell that isn't fresh
  abbrev pub MovesKeys : (Move → ℕ) → Move → Type 0
  MovesKeys keys m = HasKeys q job m.stage m.bin m.time (keys m)

  -- The text is the report: the moves by time, stage and bin, each with the number of keys that it moves; and the workers by number, each with the number of groups that it owns
  pub record IsReport (text : List ℕ) : Type 0 where
    pub keys : Move → ℕ
    pub moved : All (MovesKeys keys) (moves_of (outline_of q job))
    pub told : text ≡ move_lines keys (moves_of (outline_of q job)) ++ worker_lines groups_owned job.shape.workers

  -- a job has no two reports
  abbrev pub JobHasOneReport : Type 0
  JobHasOneReport = (a b : List ℕ) → IsReport a → IsReport b → a ≡ b

  -- on top of what was there before, the report stands
  abbrev pub IsReported : Option (List ℕ) → Option (List ℕ) → Type 0
  IsReported before now = (text : List ℕ) × IsReport text × (now ≡ grown before text)

  -- on top of what was there before, a beginning of the report stands
  abbrev pub IsReportedInPart : Option (List ℕ) → Option (List ℕ) → Type 0
  IsReportedInPart before now = (text : List ℕ) × IsReport text × (k : ℕ) × (now ≡ grown before (take k text))
