-- What is known of a packet that leaves a worker.
use Rattle.std.specs.Prelude.{◌≡◌, ℕ, List}
use Rattle.mp_names.specs.declared.controls.Move.{Move}
use Rattle.mp_names.specs.declared.locations.Loc.TheVariants.{Host}
use Rattle.mp_names.specs.declared.names.Name.TheVariants.{Packet}
use Rattle.mp_names.specs.declared.pointstamps.Change.{Change}
use Rattle.mp_names.specs.Frontiers.{HasReached}
use Rattle.mp_names.specs.Logs.{Log, with_sent}
use Rattle.mp_names.specs.Names.{IsLeast}
use Rattle.mp_names.specs.Outlines.{Outline, receiver}
use Rattle.mp_stamps.specs.declared.seen.Seen.{Seen}
use Rattle.mp_stamps.specs.Seen.{seen_at}
use Rattle.mp_model.specs.Facts.{JobFacts, QueryFacts}
use Rattle.mp_rows.specs.Entries.{AreChanges}
use Rattle.mp_outline.specs.JobOutline.{outline_of}
use Rattle.mp_msg.specs.Contents.{IsPacketOf}
use Rattle.mp_msg.specs.States.{IsStateBefore}
use Rattle.mp_host_laws.specs.declared.held.Held.{Held}
use Rattle.mp_host_laws.specs.Hosted.{Hosted}
use Rattle.mp_host_laws.specs.Moving.{IsTakenOut}
use Rattle.mp_handoff.specs.Due.{IsDueHere}
use Rattle.mp_worker_parts.specs.Below.{IsHostAt, Parts}

-- The packet of this move is the least of the stage that is due, all groups before it are applied, and it goes to its bin's new owner
pub record IsDueNow (o : Outline) (w : ℕ) (log : Log) (seen : Seen) (j : ℕ) (mv : Move) : Type 0 where
  pub least : IsLeast (IsDueHere o log seen w j) (Packet j mv.bin mv.time)
  pub reached : HasReached (seen_at seen (Host j)) mv.time
  pub to : mv.to ≡ receiver o (Packet j mv.bin mv.time)

module _ {Cell : Type 0} (q : QueryFacts Cell) (job : JobFacts) where
  -- the changes that sending the bin's state brings, whatever of it the host has in hand
  abbrev pub AreChangesOfLeaving : ℕ → Log → ℕ → Move → Hosted Cell → List Change → Type 0
  AreChangesOfLeaving w log j mv h changes =
      (one : Held Cell) (out : Hosted Cell)
      → IsTakenOut mv.bin mv.time one h out
      → IsStateBefore q job j mv.bin mv.time one.state
      → AreChanges (outline_of q job) w log (with_sent log (Packet j mv.bin mv.time)) changes

  -- What is known of the state of a bin that is due to leave a stage and was taken out of its host: it is what the packet has, and the host holds the rest
  pub record IsLeaving (p : Parts Cell) (j : ℕ) (mv : Move) (one : Held Cell) (out : Hosted Cell) : Type 0 where
    pub bin : one.bin ≡ mv.bin
    pub content : IsPacketOf q job j one.bin mv.time one.state
    pub state : IsStateBefore q job j mv.bin mv.time one.state
    pub without : IsHostAt q job p.number (with_sent p.log (Packet j mv.bin mv.time)) j out
