-- What holds of hosts, whatever the query and the job.
use Rattle.std.specs.Prelude.{◌≡◌, ◌↔◌, ℕ, ◌<◌, true, false, Contains, IsSome, Some, None, length}
use Rattle.mp_names.specs.declared.locations.Loc.TheVariants.{Mail, State}
use Rattle.mp_names.specs.declared.names.Name.TheVariants.{Group, Packet}
use Rattle.mp_names.specs.Names.{has, In, IsLeast}
use Rattle.mp_names.specs.Outlines.{IsBeforeStop, IsOwedBy, IsOwedTo, groups_of}
use Rattle.mp_names.specs.Logs.{Log, LogIsLegal, empty_log, is_pending, with_applied, with_sent, with_took}
use Rattle.mp_names.specs.Frontiers.{HasPassed, number_at}
use Rattle.mp_names.specs.Keeping.{IsWaiting}
use Rattle.mp_stamps.specs.declared.seen.Seen.{Seen}
use Rattle.mp_stamps.specs.Seen.{seen_at}
use Rattle.mp_bins.specs.Bins.{bin_of_key}
use Rattle.mp_model.specs.declared.record.Rec.{Rec}
use Rattle.mp_model.specs.Facts.{JobFacts, QueryFacts}
use Rattle.mp_model.specs.Folds.{cell_before}
use Rattle.mp_model.specs.Stages.{stage_records}
use Rattle.mp_outline.specs.JobOutline.{name_of_record, outline_of}
use Rattle.mp_outline.specs.Laws.{group_at}
use Rattle.mp_msg.specs.Contents.{IsRecordOf}
use Rattle.mp_msg.specs.States.{BinContent, IsStateBefore}
use Rattle.mp_host_laws.specs.declared.held.Held.{Held}
use Rattle.mp_host_laws.specs.Hosted.{Hosted, IsNew, StandsInOrder, cell_at, first_group, keys_at, state_at, state_before}
use Rattle.mp_host_laws.specs.Applying.{IsApplied, IsReceived, group_here, woken_by}
use Rattle.mp_host_laws.specs.Moving.{IsPutIn, IsTakenOut, brought, not_waiting}
use Rattle.mp_host_laws.specs.HostOf.{IsHostOf, HostMatchesLogAndSeen, IsReadyAt}

module _ {Cell : Type 0} (q : QueryFacts Cell) (job : JobFacts) where
  -- a new host holds what the empty log says
  abbrev pub NewHostsHoldTheOpening : Type 0
  NewHostsHoldTheOpening = (h : Hosted Cell) → IsNew q job h → IsHostOf q job empty_log h

  -- a host that receives a record holds what the log says with that record taken
  abbrev pub RecordsAreHeld : Type 0
  RecordsAreHeld =
      (log : Log) (r : Rec) (old new : Hosted Cell)
      → IsHostOf q job log old
      → LogIsLegal (outline_of q job) old.worker log
      → IsRecordOf q job old.stage r
      → has log.took (name_of_record old.stage r) ≡ false
      → IsReceived r old new
      → IsHostOf q job (with_took log (name_of_record old.stage r)) new

  -- the first group that waits here is the least that waits by the log, and where none waits here none waits by the log
  abbrev pub FirstIsLeast : Type 0
  FirstIsLeast =
      (log : Log) (h : Hosted Cell)
      → StandsInOrder q job h
      → IsHostOf q job log h
      → LogIsLegal (outline_of q job) h.worker log
      → h.stage < job.shape.stages
      → ((t k : ℕ) → first_group h ≡ Some (t, k) → IsLeast (IsWaiting (outline_of q job) h.worker log h.stage) (Group h.stage t k))
      × (first_group h ≡ None → (t k : ℕ) → IsWaiting (outline_of q job) h.worker log h.stage (Group h.stage t k) → ⊥)

  -- What a host has of a group that is ready: the whole group, the state of its key's bin, and the key's cell just before it
  pub record IsWholeHere (h : Hosted Cell) (t k : ℕ) : Type 0 where
    pub group : group_here h t k ≡ group_at q job h.stage t k
    pub in_hand : IsSome (state_at h (bin_of_key k job.shape.bins) t)
    pub cell : cell_at (q.fresh h.stage) job.shape.bins h t k ≡ cell_before q h.stage (stage_records q job.events h.stage) k t
    pub fits : q.fits h.stage (cell_at (q.fresh h.stage) job.shape.bins h t k) (group_here h t k) ≡ true

  -- the first group that waits here is ready, and whole, once the frontiers of records and packets have passed its time, where that is before the stop time
  abbrev pub FirstIsWhole : Type 0
  FirstIsWhole =
      (log : Log) (seen : Seen) (h : Hosted Cell) (t k : ℕ)
      → StandsInOrder q job h
      → HostMatchesLogAndSeen q job log seen h
      → h.stage < job.shape.stages
      → h.worker < job.shape.workers
      → first_group h ≡ Some (t, k)
      → HasPassed (seen_at seen (Mail h.stage)) t
      → HasPassed (seen_at seen (State h.stage)) t
      → IsBeforeStop job.until t
      → IsReadyAt q job log seen h t k × IsWholeHere h t k

  -- a host that applies a group that is ready holds what the log says with that group applied
  abbrev pub GroupsAreHeld : Type 0
  GroupsAreHeld =
      (log : Log) (seen : Seen) (old new : Hosted Cell) (t k : ℕ)
      → StandsInOrder q job old
      → HostMatchesLogAndSeen q job log seen old
      → old.stage < job.shape.stages
      → old.worker < job.shape.workers
      → first_group old ≡ Some (t, k)
      → HasPassed (seen_at seen (Mail old.stage)) t
      → HasPassed (seen_at seen (State old.stage)) t
      → IsApplied q job t k old new
      → IsHostOf q job (with_applied log (Group old.stage t k)) new

  -- and the times at which the key waits from then on, and didn't before, are those that are told
  abbrev pub WokenAreTold : Type 0
  WokenAreTold =
      (log : Log) (seen : Seen) (h : Hosted Cell) (t k u : ℕ)
      → StandsInOrder q job h
      → HostMatchesLogAndSeen q job log seen h
      → h.stage < job.shape.stages
      → h.worker < job.shape.workers
      → first_group h ≡ Some (t, k)
      → HasPassed (seen_at seen (Mail h.stage)) t
      → HasPassed (seen_at seen (State h.stage)) t
      → (Contains (woken_by q h t k) u ↔ ((is_pending (outline_of q job) h.worker (with_applied log (Group h.stage t k)) (Group h.stage u k) ≡ true) × (is_pending (outline_of q job) h.worker log (Group h.stage u k) ≡ false)))

  -- as many groups wait here at a time as wait by the log
  abbrev pub WaitingAreCounted : Type 0
  WaitingAreCounted =
      (log : Log) (h : Hosted Cell) (t : ℕ)
      → StandsInOrder q job h
      → IsHostOf q job log h
      → LogIsLegal (outline_of q job) h.worker log
      → h.stage < job.shape.stages
      → length (keys_at h t) ≡ number_at (outline_of q job) (is_pending (outline_of q job) h.worker log) t (groups_of (outline_of q job) h.stage)

  -- Bins that move

  -- The packet of the bin's move at this time may leave: the worker owes it and hasn't sent it, the log stays legal with it, and the bin's earlier packets that the worker owes are sent
  pub record MayLeaveNow (log : Log) (h : Hosted Cell) (b t : ℕ) : Type 0 where
    pub owed : IsOwedBy (outline_of q job) h.worker (Packet h.stage b t)
    pub unsent : has log.sent (Packet h.stage b t) ≡ false
    pub legal : LogIsLegal (outline_of q job) h.worker (with_sent log (Packet h.stage b t))
    pub earlier : (m : ℕ) → m < t → IsOwedBy (outline_of q job) h.worker (Packet h.stage b m) → In (Packet h.stage b m) log.sent

  -- then a state of the bin that began before is here
  abbrev pub LeavingBinsAreHere : Type 0
  LeavingBinsAreHere = (log : Log) (h : Hosted Cell) (b t : ℕ) → IsHostOf q job log h → LogIsLegal (outline_of q job) h.worker log → MayLeaveNow log h b t → IsSome (state_before h b t)

  -- a host from which it is taken out holds what the log says with the packet sent, and what was taken out is what the bin has just before that time
  abbrev pub BinsLeave : Type 0
  BinsLeave =
      (log : Log) (b t : ℕ) (one : Held Cell) (old new : Hosted Cell)
      → StandsInOrder q job old
      → IsHostOf q job log old
      → LogIsLegal (outline_of q job) old.worker log
      → MayLeaveNow log old b t
      → IsTakenOut b t one old new
      → IsHostOf q job (with_sent log (Packet old.stage b t)) new × IsStateBefore q job old.stage b t one.state

  -- the groups that wait no longer then are those of its wakes that don't wait without it
  abbrev pub LeavingAreTold : Type 0
  LeavingAreTold =
      (log : Log) (b t : ℕ) (one : Held Cell) (old new : Hosted Cell) (u k : ℕ)
      → StandsInOrder q job old
      → IsHostOf q job log old
      → LogIsLegal (outline_of q job) old.worker log
      → old.stage < job.shape.stages
      → MayLeaveNow log old b t
      → IsTakenOut b t one old new
      → (Contains (not_waiting new one.state) (u, k) ↔ ((is_pending (outline_of q job) old.worker log (Group old.stage u k) ≡ true) × (is_pending (outline_of q job) old.worker (with_sent log (Packet old.stage b t)) (Group old.stage u k) ≡ false)))

  -- a host that gets back what was taken out of it holds what it held
  abbrev pub BinsReturn : Type 0
  BinsReturn =
      (log : Log) (b t : ℕ) (one : Held Cell) (old between new : Hosted Cell)
      → IsHostOf q job log old
      → IsTakenOut b t one old between
      → IsPutIn one between new
      → IsHostOf q job log new

  -- a host that is given the state that a packet brings holds what the log says with that packet taken
  abbrev pub PacketsAreHeld : Type 0
  PacketsAreHeld =
      (log : Log) (b t : ℕ) (s : BinContent Cell) (old new : Hosted Cell)
      → IsHostOf q job log old
      → LogIsLegal (outline_of q job) old.worker log
      → IsOwedTo (outline_of q job) old.worker (Packet old.stage b t)
      → has log.took (Packet old.stage b t) ≡ false
      → IsStateBefore q job old.stage b t s
      → IsPutIn (brought b t s) old new
      → IsHostOf q job (with_took log (Packet old.stage b t)) new

  -- the groups that wait from then on, and didn't before, are those of its wakes that didn't wait
  abbrev pub ComingAreTold : Type 0
  ComingAreTold =
      (log : Log) (b t : ℕ) (s : BinContent Cell) (old new : Hosted Cell) (u k : ℕ)
      → StandsInOrder q job old
      → IsHostOf q job log old
      → LogIsLegal (outline_of q job) old.worker log
      → old.stage < job.shape.stages
      → IsOwedTo (outline_of q job) old.worker (Packet old.stage b t)
      → has log.took (Packet old.stage b t) ≡ false
      → IsStateBefore q job old.stage b t s
      → IsPutIn (brought b t s) old new
      → (Contains (not_waiting old s) (u, k) ↔ ((is_pending (outline_of q job) old.worker (with_took log (Packet old.stage b t)) (Group old.stage u k) ≡ true) × (is_pending (outline_of q job) old.worker log (Group old.stage u k) ≡ false)))
