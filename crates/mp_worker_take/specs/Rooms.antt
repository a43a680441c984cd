-- Hosts and movers but for the room that they have, and the room that a message needs.
use Rattle.std.specs.Prelude.{◌≡◌, ◌≤◌, ◌+◌, All, List, [], map}
use Rattle.std.specs.Vec.{vec_capacity}
use Rattle.mp_names.specs.Limits.{most_in_bundle}
use Rattle.mp_model.specs.Facts.{JobFacts, QueryFacts}
use Rattle.mp_host_laws.specs.Hosted.{Hosted}
use Rattle.mp_handoff.specs.MoversState.{MoversState}
use Rattle.mp_worker_parts.specs.Contents.{Contents, number_of_post_times}

module _ {Cell : Type 0} where
  -- the host, with no room
  abbrev pub without_room : Hosted Cell → Hosted Cell
  without_room h = record h { room = 0; room_for_bins = 0 }

  -- the hosts are the same but for their rooms
  abbrev pub SameHosts : List (Hosted Cell) → List (Hosted Cell) → Type 0
  SameHosts old new = map without_room new ≡ map without_room old

-- the movers of a stage, with no room
abbrev pub roomless : MoversState → MoversState
roomless m = record m { room = 0 }

-- the movers of all stages are the same but for their rooms
abbrev pub SameMovers : List MoversState → List MoversState → Type 0
SameMovers old new = map roomless new ≡ map roomless old

-- There is room for one message, whatever it holds: in the log for the names that may travel in one, the notes, the rows to be written, each host, the movers of each stage, and the lists of changes, which are empty. A packet has wakes of no more times than records post
pub record HasRoomToTake {Cell : Type 0} (q : QueryFacts Cell) (job : JobFacts) (p : Contents Cell) : Type 0 where
  pub names : most_in_bundle ≤ p.names
  pub changes : number_of_post_times q job + 2 ≤ p.changes
  pub notes : 1 ≤ p.notes.room
  pub rows : 1 ≤ p.unwritten.room
  pub hosts : All (λ (h : Hosted Cell). (most_in_bundle ≤ h.room) × (1 ≤ h.room_for_bins)) p.hosts
  pub movers : All (λ (m : MoversState). 1 ≤ m.room) p.movers
  pub empty : (p.lists.numbers.items ≡ []) × (p.lists.changes.items ≡ [])
  pub lists : (number_of_post_times q job ≤ vec_capacity p.lists.numbers) × (number_of_post_times q job + 1 ≤ vec_capacity p.lists.changes)
