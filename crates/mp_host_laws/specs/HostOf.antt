-- What it means that a host holds what its worker's log says, and which group may be applied.
use Rattle.std.specs.Prelude.{◌≡◌, ◌≢◌, ◌↔◌, ◌⊎◌, ◌<◌, ◌≤◌, ◌||◌, ℕ, Bool, false, nat_lt, Option, None, Some, All, AllPairs, Any, Contains, filter}
use Rattle.mp_names.specs.declared.locations.Loc.TheVariants.{Mail, State}
use Rattle.mp_names.specs.declared.names.Name.TheVariants.{Packet, Group}
use Rattle.mp_names.specs.Names.{has, In, IsLeast}
use Rattle.mp_names.specs.Outlines.{IsBeforeStop, Outline, IsOwedBy, owner_at}
use Rattle.mp_names.specs.Logs.{Log, LogIsLegal, InHand, left_since}
use Rattle.mp_names.specs.Frontiers.{HasPassed}
use Rattle.mp_names.specs.Keeping.{IsWaiting}
use Rattle.mp_stamps.specs.declared.seen.Seen.{Seen}
use Rattle.mp_stamps.specs.Seen.{SeenIsDone, seen_at}
use Rattle.mp_bins.specs.Bins.{bin_of_key}
use Rattle.mp_bins.specs.Notes.{Notes, first_owner, owner_at as noted_owner}
use Rattle.mp_model.specs.declared.record.Rec.{Rec}
use Rattle.mp_model.specs.Facts.{JobFacts, QueryFacts}
use Rattle.mp_model.specs.Folds.{fold_of}
use Rattle.mp_outline.specs.JobOutline.{layout_of, name_of_record, outline_of}
use Rattle.mp_outline.specs.Laws.{timeline_of}
use Rattle.mp_postdated.specs.Wakes.{Has}
use Rattle.mp_msg.specs.Contents.{IsRecordOf}
use Rattle.mp_msg.specs.States.{IsOpening, IsPostedAt, cell_in}
use Rattle.mp_host_laws.specs.declared.held.Held.{Held}
use Rattle.mp_host_laws.specs.Hosted.{Hosted, wakes_in}

-- A worker sends the packets of each bin in the order of their times, and applies no group before the packets of its bin that were due by its time are sent
pub record MovesInOrder (o : Outline) (w : ℕ) (log : Log) (j : ℕ) : Type 0 where
  pub packets : (b m n : ℕ) → m < n → In (Packet j b n) log.sent → IsOwedBy o w (Packet j b m) → In (Packet j b m) log.sent
  pub groups : (u k m : ℕ) → m ≤ u → In (Group j u k) log.applied → IsOwedBy o w (Packet j (o.bin_of k) m) → In (Packet j (o.bin_of k) m) log.sent

-- the group was taken into a state that has been in hand since then: it is of a time before that, or it is applied
abbrev pub is_taken_in : Log → ℕ → Option ℕ → ℕ → ℕ → Bool
is_taken_in log j None u k = has log.applied (Group j u k)
is_taken_in log j (Some m) u k = nat_lt u m || has log.applied (Group j u k)

-- what a record at s posts for u is a wake of the state: the packet brought it, or the record's group is applied since then
abbrev pub CameInto : Log → ℕ → Option ℕ → ℕ → ℕ → ℕ → Type 0
CameInto log j None k s u = In (Group j s k) log.applied
CameInto log j (Some m) k s u = ((s < m) × (m ≤ u)) ⊎ ((m ≤ s) × In (Group j s k) log.applied)

-- what the job begins with for u is a wake of the state: the first owner has it, or the packet brought it
abbrev pub OpensInto : Option ℕ → ℕ → Type 0
OpensInto None u = Unit {0}
OpensInto (Some m) u = m ≤ u

module _ {Cell : Type 0} (q : QueryFacts Cell) (job : JobFacts) where
  -- a wake of the key at u came into the state: the job begins with it, or a record posts it
  abbrev pub IsWakeOf : Log → ℕ → Option ℕ → ℕ → ℕ → Type 0
  IsWakeOf log j since k u = (IsOpening q j k u × OpensInto since u) ⊎ ((v : ℕ) × IsPostedAt q job j k v u × CameInto log j since k v u)

  -- the worker has had a state of the bin in hand since then: as the first owner, or since it took the packet of that time; and it hasn't left
  abbrev pub IsInHandSince : ℕ → Log → ℕ → ℕ → Option ℕ → Type 0
  IsInHandSince w log j b None = (b < job.shape.bins) × (first_owner (layout_of job) j b ≡ w) × ((m : ℕ) → has log.sent (Packet j b m) ≡ false)
  IsInHandSince w log j b (Some m) = In (Packet j b m) log.took × (left_since log j b m ≡ false)

  -- What a state in hand has: the wakes that came into it, of groups that aren't applied, and the cells of its bin's keys after the groups that were taken in
  pub record IsStateOf (log : Log) (j : ℕ) (s : Held Cell) : Type 0 where
    pub wakes : (u k : ℕ) → bin_of_key k job.shape.bins ≡ s.bin
        → (Has (wakes_in s) u k ↔ ((has log.applied (Group j u k) ≡ false) × IsWakeOf log j s.since k u))
    pub cells : (k : ℕ) → bin_of_key k job.shape.bins ≡ s.bin
        → cell_in (q.fresh j) s.state.cells k ≡ fold_of q j (q.opening j k) (filter (λ e. is_taken_in log j s.since e.time k) (timeline_of q job j k))

  -- The host holds just what the log says of its stage
  pub record IsHostOf (log : Log) (h : Hosted Cell) : Type 0 where
    pub moves : MovesInOrder (outline_of q job) h.worker log h.stage
    -- the records that were taken, of groups that aren't applied
    pub records : (r : Rec) → (Contains h.records r ↔ (IsRecordOf q job h.stage r × In (name_of_record h.stage r) log.took × (has log.applied (Group h.stage r.time r.key) ≡ false)))
    pub once : AllPairs (λ r s. r ≢ s) h.records
    -- the bins that are in hand, each state once
    pub held : (b : ℕ) (since : Option ℕ) → (Any (λ s. (s.bin ≡ b) × (s.since ≡ since)) h.held ↔ IsInHandSince h.worker log h.stage b since)
    pub held_once : AllPairs (λ r s. (r.bin ≡ s.bin) × (r.since ≡ s.since) → ⊥) h.held
    pub states : All (IsStateOf log h.stage) h.held

  -- What a host is asked by: it holds what a legal log of its worker says, and in that log all is done that was seen to be over
  pub record HostMatchesLogAndSeen (log : Log) (seen : Seen) (h : Hosted Cell) : Type 0 where
    pub host : IsHostOf log h
    pub legal : LogIsLegal (outline_of q job) h.worker log
    pub done : SeenIsDone (outline_of q job) h.worker log seen

  -- every control record whose time the frontier of packets has passed is noted: up to there the owners are the job's
  pub record OwnersAreCurrent (notes : Notes) (seen : Seen) (stage : ℕ) : Type 0 where
    pub shape : notes.layout.shape ≡ job.shape
    pub owners : (t b : ℕ) → HasPassed (seen_at seen (State stage)) t → noted_owner notes stage b t ≡ owner_at (outline_of q job) stage b t

  -- the group of this key at this time can be applied: it is the least that waits, all records and packets up to its time have come, its bin is in hand, and its time is before the stop time, where there is one
  pub record IsReadyAt (log : Log) (seen : Seen) (h : Hosted Cell) (t k : ℕ) : Type 0 where
    pub least : IsLeast (IsWaiting (outline_of q job) h.worker log h.stage) (Group h.stage t k)
    pub mail : HasPassed (seen_at seen (Mail h.stage)) t
    pub state : HasPassed (seen_at seen (State h.stage)) t
    pub in_hand : InHand (outline_of q job) h.worker log h.stage ((outline_of q job).bin_of k) t
    pub early : IsBeforeStop job.until t
