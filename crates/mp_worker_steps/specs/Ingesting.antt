-- Which record a worker ingests next, and the room that it needs.
use Rattle.std.specs.Prelude.{◌≡◌, ◌≤◌, ℕ, [], ◌∷◌, ◌++◌, Some, slice_get}
use Rattle.mp_names.specs.Logs.{Log}
use Rattle.mp_names.specs.Names.{IsPrefix}
use Rattle.mp_names.specs.Outlines.{share}
use Rattle.mp_model.specs.declared.record.Rec.{Rec}
use Rattle.mp_model.specs.Facts.{JobFacts, QueryFacts}
use Rattle.mp_outline.specs.JobOutline.{name_of_record, outline_of}
use Rattle.mp_msg.specs.Contents.{IsRecordOf}
use Rattle.mp_route.specs.Routed.{Routed}
use Rattle.mp_worker_parts.specs.Contents.{Contents}

-- the record is the next of the worker's share
abbrev pub IsNextRecord : {Cell : Type 0} → QueryFacts Cell → JobFacts → ℕ → Log → Rec → Type 0
IsNextRecord q job w log r = IsPrefix (log.ingested ++ name_of_record 0 r ∷ []) (share (outline_of q job) w) × IsRecordOf q job 0 r

-- There is room for a record that is ingested: in the log, and in the router of stage 0
pub record HasRoomToIngest {Cell : Type 0} (p : Contents Cell) : Type 0 where
  pub names : 1 ≤ p.names
  pub changes : 2 ≤ p.changes
  pub router : (r : Routed) → slice_get p.routers 0 ≡ Some r → 1 ≤ r.room
