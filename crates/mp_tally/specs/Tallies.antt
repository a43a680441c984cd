-- What a worker tells of what it has done: the packets that it sent, and its groups.
use Rattle.std.specs.Prelude.{◌≡◌, ◌↔◌, ℕ, All, List, Some, filter, flat_map, length, map, slice_get}
use Rattle.mp_names.specs.declared.names.Name.{Name}
use Rattle.mp_names.specs.declared.names.Name.TheVariants.{Packet}
use Rattle.mp_names.specs.Logs.{Log, owned_groups}
use Rattle.mp_names.specs.Names.{Distinct, In, is_packet, joined_below}
use Rattle.mp_names.specs.Outlines.{IsMove, owner_before}
use Rattle.mp_model.specs.Facts.{JobFacts, QueryFacts}
use Rattle.mp_outline.specs.JobOutline.{outline_of}
use Rattle.mp_handoff.specs.declared.sent.Sent.{Sent}
use Rattle.mp_handoff.specs.Keys.{HasKeys}
use Rattle.mp_handoff.specs.MoversState.{MoversState}
use Rattle.mp_tally.specs.declared.tally.Moved.{Moved}
use Rattle.mp_tally.specs.declared.tally.Tally.{Tally}

-- a packet of a stage that was sent
abbrev pub moved_of : ℕ → Sent → Moved
moved_of j s = record { stage = j; bin = s.bin; time = s.time; keys = s.keys }

-- those that the movers of each stage sent
abbrev pub moved_by : List MoversState → List Moved
moved_by movers = flat_map (λ m. map (moved_of m.stage) m.sent) movers

-- what the packet is called
abbrev pub name_of_moved : Moved → Name
name_of_moved m = Packet m.stage m.bin m.time

-- the packets of the first stages that the log has as sent, by stage
abbrev pub sent_packets : ℕ → Log → List Name
sent_packets stages log = joined_below stages (λ j. filter (is_packet j) log.sent)

-- its bin had so many keys just before the move
abbrev pub MovedHasKeys : {Cell : Type 0} → QueryFacts Cell → JobFacts → Moved → Type 0
MovedHasKeys q job m = HasKeys q job m.stage m.bin m.time m.keys

module _ {Cell : Type 0} (q : QueryFacts Cell) (job : JobFacts) where
  -- The tally says what the log has: how many groups are applied, which packets are sent, with how many keys each
  pub record TellsLog (log : Log) (tally : Tally) : Type 0 where
    pub groups : tally.groups ≡ length log.applied
    pub moved : map name_of_moved tally.moved.items ≡ sent_packets job.shape.stages log
    pub keys : All (MovedHasKeys q job) tally.moved.items

  -- The job's tally of a worker: the groups that it owns, and each move of a bin away from it, once, with how many
  -- keys the bin has just before the move
  pub record IsTallyOf (w : ℕ) (tally : Tally) : Type 0 where
    pub groups : tally.groups ≡ length (joined_below job.shape.stages (owned_groups (outline_of q job) w))
    pub moves : (j b t : ℕ) →
        (In (Packet j b t) (map name_of_moved tally.moved.items)
        ↔ (IsMove (outline_of q job) j b t × (owner_before (outline_of q job) j b t ≡ w)))
    pub once : Distinct (map name_of_moved tally.moved.items)
    pub keys : All (MovedHasKeys q job) tally.moved.items

  -- There is a tally of each worker, and each is the job's
  pub record AreTalliesOf (tallies : List Tally) : Type 0 where
    pub all : length tallies ≡ job.shape.workers
    pub each : (w : ℕ) (t : Tally) → slice_get tallies w ≡ Some t → IsTallyOf w t
