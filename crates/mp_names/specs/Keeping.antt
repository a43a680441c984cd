-- What one worker keeps by itself: the names that it may put into its log next, and what it knows of the least group that waits.
use Rattle.std.specs.Prelude.{◌≡◌, ℕ, ◌<◌, ◌≤◌, Bool, true, false, [], ◌∷◌, ◌++◌}
use Rattle.mp_names.specs.declared.names.Name.{Name}
use Rattle.mp_names.specs.declared.names.Name.TheVariants.{Rec, Packet, Row, Group, Settled, Written}
use Rattle.mp_names.specs.declared.names.Tag.{Tag}
use Rattle.mp_names.specs.declared.locations.Loc.TheVariants.{CtlMail, Mail, State, Host, OutMail}
use Rattle.mp_names.specs.Names.{has, In, IsPrefix, Less, IsLeast}
use Rattle.mp_names.specs.Outlines.{Outline, OutlineIsSound, IsBeforeStop, group_owner, groups_of, is_woken, IsOwed, IsOwedBy, IsOwedTo, share}
use Rattle.mp_names.specs.Logs.{Log, LogIsLegal, with_ingested, with_sent, with_took, with_applied, with_settled, is_given, is_noted, has_wake, is_pending, InHand}
use Rattle.mp_names.specs.Frontiers.{IsClosedForOne}

-- a name of this test that has to be sent, that the worker has, and that it hasn't sent
abbrev pub IsHeld : Outline → ℕ → Log → (Name → Bool) → Name → Type 0
IsHeld o w log p x = (p x ≡ true) × IsOwed o x × (is_given o w log x ≡ true) × (has log.sent x ≡ false)

-- a packet of the stage that the worker owes and hasn't sent
abbrev pub IsUnsentPacket : Outline → ℕ → Log → ℕ → Name → Type 0
IsUnsentPacket o w log j (Packet i b t) = (i ≡ j) × IsOwedBy o w (Packet j b t) × (has log.sent (Packet j b t) ≡ false)
IsUnsentPacket o w log j _ = ⊥

-- a time of the stage of which a control record is noted, and that isn't settled
abbrev pub IsUnsettled : Outline → Log → ℕ → Name → Type 0
IsUnsettled o log j (Settled i t) = (i ≡ j) × (is_noted o log j t ≡ true) × (has log.settled (Settled j t) ≡ false)
IsUnsettled o log j _ = ⊥

-- a group of the stage that waits
abbrev pub IsWaiting : Outline → ℕ → Log → ℕ → Name → Type 0
IsWaiting o w log j x = In x (groups_of o j) × (is_pending o w log x ≡ true)

-- a time of which an answer row is taken, and that isn't written
abbrev pub IsUnwritten : Log → Name → Type 0
IsUnwritten log (Written t) = ((g : Tag) × In (Row t g) log.took) × (has log.settled (Written t) ≡ false)
IsUnwritten log _ = ⊥

-- The worker owns the group and has all that belongs to it, so that the group can be applied
pub record GroupIsWhole (o : Outline) (w : ℕ) (log : Log) (j t k : ℕ) : Type 0 where
  pub owned : group_owner o j t k ≡ w
  pub bin_in_hand : InHand o w log j (o.bin_of k) t
  pub records_taken : (g : Tag) → In (Rec j t k g) (o.records j) → In (Rec j t k g) log.took
  pub wake_known : has_wake o w log j t k ≡ is_woken o j t k
  pub earlier_applied : (u l : ℕ) → In (Group j u l) (groups_of o j) → group_owner o j u l ≡ w → Less (Group j u l) (Group j t k) → In (Group j u l) log.applied
  pub packets_sent : (m : ℕ) → m ≤ t → IsOwedBy o w (Packet j (o.bin_of k) m) → In (Packet j (o.bin_of k) m) log.sent

-- A log that is legal stays so with one more name. Of other workers nothing is needed but that the frontiers that this one saw have passed, and of that only what it says of this log
pub record NamesKeepLogsLegal (o : Outline) (w : ℕ) (log : Log) : Type 0 where
  -- the next of the share
  pub ingest : (x : Name) → IsPrefix (log.ingested ++ x ∷ []) (share o w) → LogIsLegal o w (with_ingested log x)
  -- a control record, a record or an answer row that is held
  pub send : (p : Name → Bool) (x : Name) → IsHeld o w log p x → LogIsLegal o w (with_sent log x)
  -- what is owed to this worker and wasn't taken
  pub take : (x : Name) → IsOwedTo o w x → has log.took x ≡ false → LogIsLegal o w (with_took log x)
  -- a packet that is owed, where the groups before it are done
  pub extract : (j b t : ℕ) → IsUnsentPacket o w log j (Packet j b t) → ((u : ℕ) → u < t → IsClosedForOne o w log (Host j) u) → LogIsLegal o w (with_sent log (Packet j b t))
  -- the least time that isn't settled, where its packets are sent
  pub settle : (j t : ℕ) → IsLeast (IsUnsettled o log j) (Settled j t) → IsClosedForOne o w log CtlMail t → ((b : ℕ) → IsOwedBy o w (Packet j b t) → In (Packet j b t) log.sent) → LogIsLegal o w (with_settled log (Settled j t))
  -- the least group that waits, before the stop time
  pub apply : (j t k : ℕ) → IsLeast (IsWaiting o w log j) (Group j t k) → IsBeforeStop o.until t → IsClosedForOne o w log (Mail j) t → IsClosedForOne o w log (State j) t → LogIsLegal o w (with_applied log (Group j t k))
  -- the least time that isn't written
  pub write : (t : ℕ) → w ≡ 0 → IsLeast (IsUnwritten log) (Written t) → IsClosedForOne o w log OutMail t → LogIsLegal o w (with_settled log (Written t))

-- the least group that waits is whole, where all that can come to it up to its time has come
abbrev pub LeastGroupIsWhole : Type 0
LeastGroupIsWhole = (o : Outline) (w : ℕ) (log : Log) → OutlineIsSound o → LogIsLegal o w log → (j t k : ℕ) → IsLeast (IsWaiting o w log j) (Group j t k) → IsClosedForOne o w log (Mail j) t → IsClosedForOne o w log (State j) t → GroupIsWhole o w log j t k
