-- What it means that movers hold what their worker's log says.
use Rattle.std.specs.Prelude.{◌≡◌, ◌↔◌, ◌⊎◌, ◌<◌, ◌≤◌, ℕ, false, not, List, Contains, filter, length, map}
use Rattle.mp_names.specs.declared.locations.Loc.TheVariants.{CtlMail}
use Rattle.mp_names.specs.declared.names.Name.{Name}
use Rattle.mp_names.specs.declared.names.Name.TheVariants.{Ctrl, Packet, Settled}
use Rattle.mp_names.specs.Names.{has, In, is_packet}
use Rattle.mp_names.specs.Outlines.{Outline, control_at, owner_at, owner_before, IsOwedBy}
use Rattle.mp_names.specs.Logs.{Log}
use Rattle.mp_names.specs.Frontiers.{HasPassed}
use Rattle.mp_names.specs.Keeping.{IsUnsettled}
use Rattle.mp_stamps.specs.declared.seen.Seen.{Seen}
use Rattle.mp_stamps.specs.Seen.{seen_at}
use Rattle.mp_bins.specs.Notes.{Notes, owner_at as noted_owner_at, owner_before as noted_owner_before}
use Rattle.mp_handoff.specs.declared.sent.Sent.{Sent}
use Rattle.mp_handoff.specs.MoversState.{MoversState, is_after}

-- the names of packets of a stage
abbrev pub packets_of : ℕ → List Sent → List Name
packets_of j = map (λ s. Packet j s.bin s.time)

-- The movers hold just what the log says of their stage
pub record IsMoversOf (o : Outline) (log : Log) (m : MoversState) : Type 0 where
  -- the times that are noted and not settled
  pub unsettled : (t : ℕ) → (Contains m.unsettled t ↔ IsUnsettled o log m.stage (Settled m.stage t))
  -- of the packets that the worker owes those up to the last are sent, and no others
  pub sent : (b t : ℕ) → IsOwedBy o m.worker (Packet m.stage b t) → has log.sent (Packet m.stage b t) ≡ not (is_after m.last t b)
  -- all control records up to a time that is settled, or of which a packet is sent, are taken
  pub known : (i t : ℕ) → In (Settled m.stage t) log.settled ⊎ ((b : ℕ) × In (Packet m.stage b t) log.sent) → i < length o.controls → (control_at o i).time ≤ t → In (Ctrl i m.worker) log.took
  -- the packets that the worker owes at a time that is settled are sent
  pub settled : (b t : ℕ) → In (Settled m.stage t) log.settled → IsOwedBy o m.worker (Packet m.stage b t) → In (Packet m.stage b t) log.sent
  -- the packets that were sent, in that order
  pub packets : packets_of m.stage m.sent ≡ filter (is_packet m.stage) log.sent

-- A control record of the stage of the movers and of this time, which their worker hasn't taken by the log, has this index
pub record IsNewControl (o : Outline) (log : Log) (m : MoversState) (t i : ℕ) : Type 0 where
  pub listed : i < length o.controls
  pub of_stage : (control_at o i).stage ≡ m.stage
  pub of_time : (control_at o i).time ≡ t
  pub not_taken : has log.took (Ctrl i m.worker) ≡ false

-- What is known up to where the control stream was seen to have passed: its control records are taken, and the owners by what was noted are the job's
pub record KnowsMoves (o : Outline) (log : Log) (notes : Notes) (seen : Seen) (w j : ℕ) : Type 0 where
  pub taken : (i t : ℕ) → HasPassed (seen_at seen CtlMail) t → i < length o.controls → (control_at o i).time ≤ t → In (Ctrl i w) log.took
  pub owners : (b t : ℕ) → HasPassed (seen_at seen CtlMail) t → (noted_owner_before notes j b t ≡ owner_before o j b t) × (noted_owner_at notes j b t ≡ owner_at o j b t)
