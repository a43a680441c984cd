-- The room that a packet needs.
use Rattle.std.specs.Prelude.{◌≤◌, ◌<◌, ℕ, get_or}
use Rattle.mp_handoff.specs.MoversState.{MoversState}
use Rattle.mp_worker_parts.specs.Contents.{Contents}

-- There is room for a packet of the stage that is sent with so many changes: in the log, and in the movers of the stage
pub record HasRoomToExtract {Cell : Type 0} (j listed : ℕ) (p : Contents Cell) : Type 0 where
  pub names : 1 ≤ p.names
  pub changes : listed ≤ p.changes
  pub movers : (d : MoversState) → 0 < (get_or p.movers j d).room_for_sent
