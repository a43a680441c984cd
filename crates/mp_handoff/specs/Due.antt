-- Which packets may leave, and which times may be settled, by what a worker's log says and what it saw.
use Rattle.std.specs.Prelude.{◌≡◌, ◌≤◌, ℕ}
use Rattle.mp_names.specs.declared.controls.Move.{Move}
use Rattle.mp_names.specs.declared.locations.Loc.TheVariants.{CtlMail, Host}
use Rattle.mp_names.specs.declared.names.Name.{Name}
use Rattle.mp_names.specs.declared.names.Name.TheVariants.{Packet, Settled}
use Rattle.mp_names.specs.Names.{In, IsLeast}
use Rattle.mp_names.specs.Outlines.{Outline, owner_at, IsOwedBy}
use Rattle.mp_names.specs.Logs.{Log}
use Rattle.mp_names.specs.Frontiers.{HasPassed, HasReached}
use Rattle.mp_names.specs.Keeping.{IsUnsentPacket, IsUnsettled}
use Rattle.mp_stamps.specs.declared.seen.Seen.{Seen}
use Rattle.mp_stamps.specs.Seen.{seen_at}
use Rattle.mp_bins.specs.Notes.{Notes}
use Rattle.mp_bins.specs.Leaving.{IsAfter, IsLeaving}
use Rattle.mp_handoff.specs.MoversState.{MoversState}
use Rattle.mp_handoff.specs.MoversOf.{IsMoversOf, KnowsMoves}

-- the movers hold what the log says, and what was seen to have passed is known
abbrev pub MoversMatchLogAndSeen : Outline → Log → Notes → Seen → MoversState → Type 0
MoversMatchLogAndSeen o log notes seen m = IsMoversOf o log m × KnowsMoves o log notes seen m.worker m.stage

-- Packets

-- a packet that the worker owes and hasn't sent, of a time that the control stream has passed
abbrev pub IsDueHere : Outline → Log → Seen → ℕ → ℕ → Name → Type 0
IsDueHere o log seen w j (Packet i b t) = IsUnsentPacket o w log j (Packet i b t) × HasPassed (seen_at seen CtlMail) t
IsDueHere o log seen w j _ = ⊥

-- the packet of this bin and time is the least that is due
abbrev pub IsLeastDue : Outline → Log → Seen → MoversState → ℕ → ℕ → Type 0
IsLeastDue o log seen m b t = IsLeast (IsDueHere o log seen m.worker m.stage) (Packet m.stage b t)

-- the packet is the least that is due, and all groups before its time were seen to be applied
abbrev pub MayLeaveHere : Outline → Log → Seen → MoversState → ℕ → ℕ → Type 0
MayLeaveHere o log seen m b t = IsLeastDue o log seen m b t × HasReached (seen_at seen (Host m.stage)) t

-- it is a move of the stage from this worker to the owner that its bin has from then on
abbrev pub IsMoveAway : Outline → ℕ → ℕ → Move → Type 0
IsMoveAway o j w m = (m.stage ≡ j) × (m.from ≡ w) × (m.to ≡ owner_at o j m.bin m.time)

-- by what was seen a packet of this time may leave, if it is the next
abbrev pub CanLeave : Seen → MoversState → ℕ → Type 0
CanLeave seen m t = HasPassed (seen_at seen CtlMail) t × HasReached (seen_at seen (Host m.stage)) t

-- Times

-- The time is the least that isn't settled, the control stream has passed it, and all packets that the worker owes then are sent
pub record MaySettleHere (o : Outline) (log : Log) (seen : Seen) (m : MoversState) (t : ℕ) : Type 0 where
  pub least : IsLeast (IsUnsettled o log m.stage) (Settled m.stage t)
  pub passed : HasPassed (seen_at seen CtlMail) t
  pub sent : (b : ℕ) → IsOwedBy o m.worker (Packet m.stage b t) → In (Packet m.stage b t) log.sent

-- by what was noted a bin leaves after the last packet, up to this time
abbrev pub LeavesBy : Notes → MoversState → ℕ → Type 0
LeavesBy notes m t = (b u : ℕ) × (u ≤ t) × IsLeaving notes m.stage m.worker b u × IsAfter m.last u b

-- by what was seen and noted the time may be settled, if it is the next
abbrev pub CanSettle : Notes → Seen → MoversState → ℕ → Type 0
CanSettle notes seen m t = HasPassed (seen_at seen CtlMail) t × (LeavesBy notes m t → ⊥)
