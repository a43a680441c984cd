-- What each step of a worker adds to its contributions, for every outline and every log that has the step before it.
use Rattle.std.specs.Prelude.{◌≡◌, ◌≢◌, ◌↔◌, ℕ, ◌+◌, ◌<◌, ◌==◌, Bool, true, false, List, [], AllPairs, Contains, count_by, length}
use Rattle.mp_names.specs.declared.names.Name.{Name}
use Rattle.mp_names.specs.declared.names.Name.TheVariants.{Ctrl, Rec, Packet, Row, Group, Settled, Written}
use Rattle.mp_names.specs.declared.names.Tag.{Tag}
use Rattle.mp_names.specs.Keeping.{IsHeld, IsUnsettled, IsWaiting}
use Rattle.mp_names.specs.Logs.{Log, LogIsLegal, is_noted, is_pending, with_applied, with_ingested, with_sent, with_settled, with_took}
use Rattle.mp_names.specs.Names.{has, In, Distinct, is_ctrl, is_rec, is_row}
use Rattle.mp_names.specs.Outlines.{Outline, OutlineIsSound, control_at, IsOwedTo, share, time_of}
use Rattle.mp_rows.specs.declared.lists.LogList.TheVariants.{Sent, Took}
use Rattle.mp_rows.specs.Entries.{AreChanges}
use Rattle.mp_rows.specs.Lists.{with_names}
use Rattle.mp_rows_laws.specs.Changes.{AreMore, applied_at, control_sent_at, control_taken_at, ingested_at, new_groups, packet_sent_at, packet_taken_at, record_sent_at, record_taken_at, records_sent_at, records_taken_at, row_sent_at, row_taken_at, settled_at, waiting_at}

-- an event of the share is ingested
abbrev pub IngestedIsCounted : Type 0
IngestedIsCounted =
    (o : Outline) (w : ℕ) (log : Log)
    → OutlineIsSound o
    → LogIsLegal o w log
    → (t k : ℕ) (g : Tag)
    → In (Rec 0 t k g) (share o w)
    → has log.ingested (Rec 0 t k g) ≡ false
    → AreChanges o w log (with_ingested log (Rec 0 t k g)) (ingested_at t)

-- a record that is held is sent
abbrev pub SentRecordIsCounted : Type 0
SentRecordIsCounted =
    (o : Outline) (w : ℕ) (log : Log)
    → OutlineIsSound o
    → (j t k : ℕ) (g : Tag)
    → IsHeld o w log (is_rec j) (Rec j t k g)
    → AreChanges o w log (with_sent log (Rec j t k g)) (record_sent_at j t)

-- several records that are held are sent, of one stage and time
abbrev pub SentRecordsAreCounted : Type 0
SentRecordsAreCounted =
    (o : Outline) (w : ℕ) (log : Log)
    → OutlineIsSound o
    → (j t : ℕ) (xs : List Name)
    → 0 < length xs
    → Distinct xs
    → ((x : Name) → In x xs → (time_of o x ≡ t) × IsHeld o w log (is_rec j) x)
    → AreChanges o w log (with_names Sent xs log) (records_sent_at j t (length xs))

-- an answer row that is held is sent
abbrev pub SentRowIsCounted : Type 0
SentRowIsCounted =
    (o : Outline) (w : ℕ) (log : Log)
    → OutlineIsSound o
    → (t : ℕ) (g : Tag)
    → IsHeld o w log is_row (Row t g)
    → AreChanges o w log (with_sent log (Row t g)) (row_sent_at t)

-- a control record that is held is sent
abbrev pub SentControlIsCounted : Type 0
SentControlIsCounted =
    (o : Outline) (w : ℕ) (log : Log)
    → OutlineIsSound o
    → (i v : ℕ)
    → IsHeld o w log is_ctrl (Ctrl i v)
    → AreChanges o w log (with_sent log (Ctrl i v)) (control_sent_at (control_at o i).time)

-- a record is taken; its group waited before, or not
abbrev pub TakenRecordIsCounted : Type 0
TakenRecordIsCounted =
    (o : Outline) (w : ℕ) (log : Log)
    → OutlineIsSound o
    → LogIsLegal o w log
    → (j t k : ℕ) (g : Tag)
    → IsOwedTo o w (Rec j t k g)
    → has log.took (Rec j t k g) ≡ false
    → (waited : Bool)
    → is_pending o w log (Group j t k) ≡ waited
    → AreChanges o w log (with_took log (Rec j t k g)) (record_taken_at j t waited)

-- several records are taken, of one stage and time
abbrev pub TakenRecordsAreCounted : Type 0
TakenRecordsAreCounted =
    (o : Outline) (w : ℕ) (log : Log)
    → OutlineIsSound o
    → LogIsLegal o w log
    → (j t : ℕ) (xs : List Name)
    → 0 < length xs
    → ((x : Name) → In x xs → (is_rec j x ≡ true) × (time_of o x ≡ t) × IsOwedTo o w x × (has log.took x ≡ false))
    → AreChanges o w log (with_names Took xs log) (records_taken_at j t (length xs) (new_groups o w log xs))

-- an answer row is taken
abbrev pub TakenRowIsCounted : Type 0
TakenRowIsCounted = (o : Outline) (w : ℕ) (log : Log) (t : ℕ) (g : Tag) → AreChanges o w log (with_took log (Row t g)) (row_taken_at t)

-- a control record is taken; one of that stage and time was noted before, or not, and then the time isn't settled
abbrev pub TakenControlIsCounted : Type 0
TakenControlIsCounted =
    (o : Outline) (w : ℕ) (log : Log) (i v : ℕ) (noted : Bool)
    → let c = control_at o i in
    is_noted o log c.stage c.time ≡ noted
    → (noted ≡ false → has log.settled (Settled c.stage c.time) ≡ false)
    → AreChanges o w log (with_took log (Ctrl i v)) (control_taken_at c.stage c.time noted)

-- a time that was noted is settled
abbrev pub SettledTimeIsCounted : Type 0
SettledTimeIsCounted =
    (o : Outline) (w : ℕ) (log : Log) (j t : ℕ)
    → IsUnsettled o log j (Settled j t)
    → AreChanges o w log (with_settled log (Settled j t)) (settled_at j t)

-- a time is written: nothing is counted
abbrev pub WrittenTimeIsCounted : Type 0
WrittenTimeIsCounted = (o : Outline) (w : ℕ) (log : Log) (t : ℕ) → AreChanges o w log (with_settled log (Written t)) []

-- a group that waits is applied; the times are those at which its key waits from then on and didn't before
abbrev pub AppliedGroupIsCounted : Type 0
AppliedGroupIsCounted =
    (o : Outline) (w : ℕ) (log : Log)
    → OutlineIsSound o
    → LogIsLegal o w log
    → (j t k : ℕ) (woken : List ℕ)
    → IsWaiting o w log j (Group j t k)
    → AllPairs (λ u v. u ≢ v) woken
    → ((u : ℕ) → (Contains woken u ↔ ((is_pending o w (with_applied log (Group j t k)) (Group j u k) ≡ true) × (is_pending o w log (Group j u k) ≡ false))))
    → AreChanges o w log (with_applied log (Group j t k)) (applied_at o j t k woken)

-- a packet is sent
abbrev pub SentPacketIsCounted : Type 0
SentPacketIsCounted =
    (o : Outline) (w : ℕ) (log : Log)
    → OutlineIsSound o
    → (j b t : ℕ) (left : List (ℕ × ℕ))
    → AreMore o w j (with_sent log (Packet j b t)) log left
    → AreChanges o w log (with_sent log (Packet j b t)) (packet_sent_at j t left)

-- a packet is taken
abbrev pub TakenPacketIsCounted : Type 0
TakenPacketIsCounted =
    (o : Outline) (w : ℕ) (log : Log)
    → OutlineIsSound o
    → (j b t : ℕ) (come : List (ℕ × ℕ))
    → AreMore o w j log (with_took log (Packet j b t)) come
    → AreChanges o w log (with_took log (Packet j b t)) (packet_taken_at j t come)

-- how many groups wait no longer once a packet is sent, at each time: a list has the time and key of each, each once
abbrev pub LeavingGroupsAreNumbered : Type 0
LeavingGroupsAreNumbered =
    (o : Outline) (w : ℕ) (log : Log)
    → OutlineIsSound o
    → LogIsLegal o w log
    → (j b t : ℕ) (left : List (ℕ × ℕ))
    → AllPairs (λ g h. g ≢ h) left
    → ((u k : ℕ) → (Contains left (u, k) ↔ ((is_pending o w log (Group j u k) ≡ true) × (is_pending o w (with_sent log (Packet j b t)) (Group j u k) ≡ false))))
    → (u : ℕ)
    → waiting_at o w log j u ≡ waiting_at o w (with_sent log (Packet j b t)) j u + count_by (λ g. g.0 == u) left

-- and how many begin to wait once it is taken
abbrev pub ComingGroupsAreNumbered : Type 0
ComingGroupsAreNumbered =
    (o : Outline) (w : ℕ) (log : Log)
    → OutlineIsSound o
    → LogIsLegal o w log
    → (j b t : ℕ) (come : List (ℕ × ℕ))
    → AllPairs (λ g h. g ≢ h) come
    → ((u k : ℕ) → (Contains come (u, k) ↔ ((is_pending o w (with_took log (Packet j b t)) (Group j u k) ≡ true) × (is_pending o w log (Group j u k) ≡ false))))
    → (u : ℕ)
    → waiting_at o w (with_took log (Packet j b t)) j u ≡ waiting_at o w log j u + count_by (λ g. g.0 == u) come
