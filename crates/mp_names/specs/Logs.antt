-- The log of one worker: its five lists of names, what it has in hand by them, and what makes it legal by itself.
use Rattle.std.specs.Prelude.{◌≡◌, ℕ, zero, suc, ◌-◌, ◌<◌, ◌⊎◌, Bool, true, false, not, ◌&&◌, ◌||◌, ◌==◌, nat_lt, nat_le, List, [], ◌∷◌, ◌++◌, filter}
use Rattle.std.specs.List.{list_any}
use Rattle.mp_names.specs.declared.names.Name.{Name}
use Rattle.mp_names.specs.declared.names.Name.TheVariants.{Ctrl, Rec, Packet, Row, Group, Settled, Written}
use Rattle.mp_names.specs.declared.names.Tag.{Tag}
use Rattle.mp_names.specs.Names.{has, In, Distinct, IsPrefix, is_group, is_settled, is_written}
use Rattle.mp_names.specs.Outlines.{Outline, control_at, owner_before, group_owner, IsMove, is_posted, groups_of, due_groups, control_times, answer_times, IsOwedBy, IsOwedTo, share}

-- each list in the order in which it grew; `settled` holds the `Settled` names, and on worker 0 the `Written` names
pub record Log : Type 0 where
  pub ingested : List Name
  pub sent : List Name
  pub took : List Name
  pub applied : List Name
  pub settled : List Name

abbrev pub empty_log : Log
empty_log = record { ingested = []; sent = []; took = []; applied = []; settled = [] }

abbrev pub with_ingested : Log → Name → Log
with_ingested log x = record log { ingested = log.ingested ++ x ∷ [] }

abbrev pub with_sent : Log → Name → Log
with_sent log x = record log { sent = log.sent ++ x ∷ [] }

abbrev pub with_took : Log → Name → Log
with_took log x = record log { took = log.took ++ x ∷ [] }

abbrev pub with_applied : Log → Name → Log
with_applied log x = record log { applied = log.applied ++ x ∷ [] }

abbrev pub with_settled : Log → Name → Log
with_settled log x = record log { settled = log.settled ++ x ∷ [] }

-- each list begins with what it was
pub record LogGrows (old new : Log) : Type 0 where
  pub ingested : IsPrefix old.ingested new.ingested
  pub sent : IsPrefix old.sent new.sent
  pub took : IsPrefix old.took new.took
  pub applied : IsPrefix old.applied new.applied
  pub settled : IsPrefix old.settled new.settled

-- What is in hand

-- the worker has what it sends on: a control record is worker 0's from the start, a record of stage 0 is ingested, the group that gave a later record or an answer row is applied
abbrev pub is_given : Outline → ℕ → Log → Name → Bool
is_given o w log (Ctrl i v) = w == 0
is_given o w log (Rec zero t k g) = has log.ingested (Rec 0 t k g)
is_given o w log (Rec (suc j) t k g) = has log.applied (Group j t g.0)
is_given o w log (Row t g) = has log.applied (Group (o.stages - 1) t g.0)
is_given o w log _ = false

-- the bin is in hand just before t: the worker owns it then, and no move is before t, or the packet of the last one is taken
abbrev pub InHandBefore : Outline → ℕ → Log → ℕ → ℕ → ℕ → Type 0
InHandBefore o w log j b t =
    (owner_before o j b t ≡ w) × (((m : ℕ) → m < t → IsMove o j b m → ⊥) ⊎ ((m : ℕ) × (m < t) × IsMove o j b m × ((n : ℕ) → m < n → n < t → IsMove o j b n → ⊥) × In (Packet j b m) log.took))

abbrev pub InHand : Outline → ℕ → Log → ℕ → ℕ → ℕ → Type 0
InHand o w log j b t = InHandBefore o w log j b (suc t)

abbrev pub is_packet_after : ℕ → ℕ → ℕ → Name → Bool
is_packet_after j b s (Packet i c m) = i == j && (c == b && nat_lt s m)
is_packet_after j b s _ = false

-- the bin left since s: a packet of it of a later time is sent
abbrev pub left_since : Log → ℕ → ℕ → ℕ → Bool
left_since log j b s = list_any (is_packet_after j b s) log.sent

-- the packet brought the wake at u that was posted at s, and the bin hasn't left since
abbrev pub brings_wake : Log → ℕ → ℕ → ℕ → ℕ → Name → Bool
brings_wake log j b s u (Packet i c m) = i == j && (c == b && (nat_lt s m && (nat_le m u && not (left_since log j b m))))
brings_wake log j b s u _ = false

-- the wake of the key at u that the record posts is here: its group was applied here and the bin hasn't left since, or a packet brought it
abbrev pub is_wake_here : Outline → Log → ℕ → ℕ → ℕ → Name → Bool
is_wake_here o log j u k (Rec i s l g) =
    l == k && (is_posted o (Rec i s l g) u && (has log.applied (Group j s k) && not (left_since log j (o.bin_of k) s) || list_any (brings_wake log j (o.bin_of k) s u) log.took))
is_wake_here o log j u k _ = false

-- the opening wake of the key at u is here: it counts as posted at 0, with the bin's first owner, so either this is that worker and the bin hasn't left since, or a packet brought it
abbrev pub is_opening_here : Outline → ℕ → Log → ℕ → ℕ → ℕ → Bool
is_opening_here o w log j u k =
    has (o.opening j) (Group j u k) && (o.first_owner j (o.bin_of k) == w && not (left_since log j (o.bin_of k) 0) || list_any (brings_wake log j (o.bin_of k) 0 u) log.took)

-- a wake of the key at u is here; until its group is applied it is a wake in hand
abbrev pub has_wake : Outline → ℕ → Log → ℕ → ℕ → ℕ → Bool
has_wake o w log j u k = is_opening_here o w log j u k || list_any (is_wake_here o log j u k) (o.records j)

abbrev pub is_record_of : ℕ → ℕ → ℕ → Name → Bool
is_record_of j u k (Rec i s l g) = i == j && (s == u && l == k)
is_record_of j u k _ = false

-- a record of the group is taken
abbrev pub has_record : Log → ℕ → ℕ → ℕ → Bool
has_record log j u k = list_any (is_record_of j u k) log.took

-- the group waits: it isn't applied, and a record of it is taken or its wake is here
abbrev pub is_pending : Outline → ℕ → Log → Name → Bool
is_pending o w log (Group j u k) = not (has log.applied (Group j u k)) && (has_record log j u k || has_wake o w log j u k)
is_pending o w log _ = false

abbrev pub is_ctrl_of : Outline → ℕ → ℕ → Name → Bool
is_ctrl_of o j t (Ctrl i v) = (control_at o i).stage == j && (control_at o i).time == t
is_ctrl_of o j t _ = false

-- a control record of this stage and time is taken
abbrev pub is_noted : Outline → Log → ℕ → ℕ → Bool
is_noted o log j t = list_any (is_ctrl_of o j t) log.took

-- What is legal

-- every group of the bin that the worker owns, of a time below t, is applied
abbrev pub EarlierApplied : Outline → ℕ → Log → ℕ → ℕ → ℕ → Type 0
EarlierApplied o w log j b t = (u k : ℕ) → u < t → o.bin_of k ≡ b → group_owner o j u k ≡ w → In (Group j u k) (groups_of o j) → In (Group j u k) log.applied

-- the name may be sent: a packet from hand and after the bin's earlier groups, anything else once it is given
abbrev pub IsGiven : Outline → ℕ → Log → Name → Type 0
IsGiven o w log (Packet j b t) = InHandBefore o w log j b t × EarlierApplied o w log j b t
IsGiven o w log x = is_given o w log x ≡ true

-- the group may be applied: all its records are taken and its bin is in hand
abbrev pub IsReadyGroup : Outline → ℕ → Log → Name → Type 0
IsReadyGroup o w log (Group j t k) = (j < o.stages) × ((g : Tag) → In (Rec j t k g) (o.records j) → In (Rec j t k g) log.took) × InHand o w log j (o.bin_of k) t
IsReadyGroup o w log _ = ⊥

-- a time may be settled once every packet that the worker owes then is sent; worker 0 may write a time once all its answer rows are taken
abbrev pub IsReadyTime : Outline → ℕ → Log → Name → Type 0
IsReadyTime o w log (Settled j t) = (j < o.stages) × ((b : ℕ) → IsOwedBy o w (Packet j b t) → In (Packet j b t) log.sent)
IsReadyTime o w log (Written t) = (w ≡ 0) × ((g : Tag) → In (Row t g) o.rows → In (Row t g) log.took)
IsReadyTime o w log _ = ⊥

abbrev pub is_owned : Outline → ℕ → Name → Bool
is_owned o w (Group j t k) = group_owner o j t k == w
is_owned o w _ = false

-- the groups of a stage that the worker owns and is to apply, by time and key
abbrev pub owned_groups : Outline → ℕ → ℕ → List Name
owned_groups o w j = filter (is_owned o w) (due_groups o j)

-- The log is legal by itself, whatever the logs of other workers are
pub record LogIsLegal (o : Outline) (w : ℕ) (log : Log) : Type 0 where
  -- the share is ingested by index
  pub ingested_in_order : IsPrefix log.ingested (share o w)
  -- each name is sent once, by the worker that owes it, and not before it may be
  pub sent_once : Distinct log.sent
  pub sent_owed : (x : Name) → In x log.sent → IsOwedBy o w x
  pub sent_given : (x : Name) → In x log.sent → IsGiven o w log x
  -- each name is taken once, by the worker that it is owed to
  pub took_once : Distinct log.took
  pub took_owed : (x : Name) → In x log.took → IsOwedTo o w x
  -- a stage's own groups are applied in their order, each whole
  pub applied_in_order : (j : ℕ) → j < o.stages → IsPrefix (filter (is_group j) log.applied) (owned_groups o w j)
  pub applied_ready : (x : Name) → In x log.applied → IsReadyGroup o w log x
  -- times are settled and written in their order, each with all that it asks for
  pub settled_in_order : (j : ℕ) → j < o.stages → IsPrefix (filter (is_settled j) log.settled) (control_times o j)
  pub written_in_order : IsPrefix (filter is_written log.settled) (answer_times o)
  pub settled_ready : (x : Name) → In x log.settled → IsReadyTime o w log x

-- Logs of all workers: worker w's is the log at w. A list of logs is read so, with empty logs after its end
abbrev pub LogsAreLegal : Outline → (ℕ → Log) → Type 0
LogsAreLegal o logs = (w : ℕ) → w < o.workers → LogIsLegal o w (logs w)

abbrev pub LogsGrow : Outline → (ℕ → Log) → (ℕ → Log) → Type 0
LogsGrow o old new = (w : ℕ) → w < o.workers → LogGrows (old w) (new w)
