-- What the log of a worker tells of its host, once a bin was taken out, put back, or installed.
use Rattle.std.specs.Prelude.{◌≡◌, ℕ, false}
use Rattle.mp_names.specs.declared.names.Name.TheVariants.{Packet}
use Rattle.mp_names.specs.Names.{has}
use Rattle.mp_names.specs.Outlines.{IsOwedTo}
use Rattle.mp_names.specs.Logs.{Log, LogIsLegal, with_sent, with_took}
use Rattle.mp_model.specs.Facts.{JobFacts, QueryFacts}
use Rattle.mp_outline.specs.JobOutline.{outline_of}
use Rattle.mp_msg.specs.States.{BinContent, IsStateBefore}
use Rattle.mp_host_laws.specs.declared.held.Held.{Held}
use Rattle.mp_host_laws.specs.Hosted.{Hosted}
use Rattle.mp_host_laws.specs.HostOf.{IsHostOf}
use Rattle.mp_host_laws.specs.Laws.{MayLeaveNow}
use Rattle.mp_host_laws.specs.Moving.{IsTakenOut}

module _ {Cell : Type 0} (q : QueryFacts Cell) (job : JobFacts) (log : Log) where
  -- a packet of the bin at this time can't leave now
  abbrev pub NothingLeaves : Hosted Cell → ℕ → ℕ → Type 0
  NothingLeaves old b t = IsHostOf q job log old → LogIsLegal (outline_of q job) old.worker log → MayLeaveNow q job log old b t → ⊥

  -- where the packet may leave, the host holds what the log says with it sent, and what was taken out is what the bin has just before its time
  abbrev pub GivesUp : ℕ → ℕ → Held Cell → Hosted Cell → Hosted Cell → Type 0
  GivesUp b t one old new =
      IsHostOf q job log old
      → LogIsLegal (outline_of q job) old.worker log
      → MayLeaveNow q job log old b t
      → IsHostOf q job (with_sent log (Packet old.stage b t)) new × IsStateBefore q job old.stage b t one.state

  -- a host that gets back what was taken out holds what it held
  abbrev pub GetsBack : ℕ → ℕ → Held Cell → Hosted Cell → Hosted Cell → Hosted Cell → Type 0
  GetsBack b t one before old new = IsHostOf q job log before → IsTakenOut b t one before old → IsHostOf q job log new

  -- where the packet comes to the worker for the first time, the host holds what the log says with it taken
  abbrev pub TakesPacket : ℕ → ℕ → BinContent Cell → Hosted Cell → Hosted Cell → Type 0
  TakesPacket b t s old new =
      IsHostOf q job log old
      → LogIsLegal (outline_of q job) old.worker log
      → IsOwedTo (outline_of q job) old.worker (Packet old.stage b t)
      → has log.took (Packet old.stage b t) ≡ false
      → IsHostOf q job (with_took log (Packet old.stage b t)) new
