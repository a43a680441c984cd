-- What is needed before a group is applied, as nothing may be refused after that.
use Rattle.std.specs.Prelude.{◌≡◌, ◌+◌, ◌≤◌, ℕ, [], None, Some, length, slice_get}
use Rattle.std.specs.Vec.{vec_capacity}
use Rattle.mp_model.specs.Facts.{JobFacts, QueryFacts}
use Rattle.mp_model.specs.Folds.{cell_before}
use Rattle.mp_model.specs.Stages.{stage_records}
use Rattle.mp_outline.specs.Laws.{group_at}
use Rattle.mp_route.specs.Routed.{Routed}
use Rattle.mp_host_laws.specs.Hosted.{Hosted}
use Rattle.mp_host_laws.specs.Applying.{woken_by}
use Rattle.mp_host.specs.Ready.{IsReadyHere}
use Rattle.mp_worker_parts.specs.Contents.{Contents}

-- There is room for so many outputs and wakes of a group whose outputs go to the stage: in the log, in the list of changes, which is empty, and in the router of the stage, or in the rows to be sent where there is no such stage
pub record HasRoomToApply {Cell : Type 0} (j most : ℕ) (p : Contents Cell) : Type 0 where
  pub names : 1 ≤ p.names
  pub changes : most + 2 ≤ p.changes
  pub empty : p.lists.changes.items ≡ []
  pub list : most + 2 ≤ vec_capacity p.lists.changes
  pub router : (r : Routed) → slice_get p.routers j ≡ Some r → most ≤ r.room
  pub unsent : slice_get p.routers j ≡ None → most ≤ p.unsent.room

-- no fewer than the outputs and the wakes of this group of the stage
abbrev pub IsEnoughFor : {Cell : Type 0} → QueryFacts Cell → JobFacts → ℕ → ℕ → ℕ → ℕ → Contents Cell → Type 0
IsEnoughFor {Cell} q job j t k most p =
    (h : Hosted Cell) → slice_get p.hosts j ≡ Some h
    → length (q.gives h.stage (cell_before q h.stage (stage_records q job.events h.stage) k t) (group_at q job h.stage t k)) + length (woken_by q h t k) ≤ most

-- this group of the stage may be applied
abbrev pub GroupIsReady : {Cell : Type 0} → JobFacts → ℕ → ℕ → ℕ → Contents Cell → Type 0
GroupIsReady {Cell} job j t k p = (h : Hosted Cell) → slice_get p.hosts j ≡ Some h → IsReadyHere job p.worker.seen p.notes h t k
