-- The ten kinds of step: of each the place, the names that it puts into its worker's log, the condition and the effect.
use Rattle.std.specs.Prelude.{◌≡◌, ℕ, suc, ◌<◌, ◌≤◌, ◌⊎◌, cond, ◌&&◌, Bool, true, false, List, [], ◌∷◌, ◌++◌, length}
use Rattle.mp_names.specs.declared.names.Name.{Name}
use Rattle.mp_names.specs.declared.names.Name.TheVariants.{Packet, Group, Settled}
use Rattle.mp_names.specs.declared.locations.Loc.TheVariants.{CtlMail, Mail, State, Host, OutMail}
use Rattle.mp_names.specs.declared.kinds.Kind.{Kind}
use Rattle.mp_names.specs.declared.kinds.Kind.TheVariants.{Ingest, SendControl, Route, Receive, Extract, Settle, Apply, SendRow, Write, Exchange}
use Rattle.mp_names.specs.Names.{In, same_name, IsPrefix, IsLeast, is_ctrl, is_rec, is_row}
use Rattle.mp_names.specs.Outlines.{Outline, IsBeforeStop, control_at, time_of, receiver, IsOwedBy, share}
use Rattle.mp_names.specs.Logs.{Log, InHandBefore, InHand}
use Rattle.mp_names.specs.Frontiers.{HasPassed, HasReached, frontier_of}
use Rattle.mp_names.specs.Keeping.{IsHeld, IsUnsentPacket, IsUnsettled, IsWaiting, IsUnwritten}
use Rattle.mp_machine.specs.Worlds.{Worker, World, posted_logs, put}
use Rattle.mp_machine.specs.Messages.{bundle_of, first_message}

-- Places

-- the outline has the stage or the sender that the kind names
abbrev pub KindFits : Outline → Kind → Type 0
KindFits o (Route j) = j < o.stages
KindFits o (Receive v) = v < o.workers
KindFits o (Extract j) = j < o.stages
KindFits o (Settle j) = j < o.stages
KindFits o (Apply j) = j < o.stages
KindFits o _ = Unit {0}

abbrev pub IsPlace : Outline → ℕ → Kind → Type 0
IsPlace o w kind = (w < o.workers) × KindFits o kind

-- Conditions

-- a control record that the worker holds; in a paced job one of the least time, so that they go out by time
abbrev pub IsControlDue : Outline → ℕ → Log → Name → Type 0
IsControlDue o w log x = IsHeld o w log is_ctrl x × (o.paced ≡ true → (y : Name) → IsHeld o w log is_ctrl y → time_of o x ≤ time_of o y)

-- a packet that the worker owes and hasn't sent, of a move that it knows: the control stream has passed the time
abbrev pub IsDue : Outline → ℕ → Worker → ℕ → Name → Type 0
IsDue o w worker j (Packet i b t) = IsUnsentPacket o w worker.log j (Packet i b t) × HasPassed (worker.seen CtlMail) t
IsDue o w worker j _ = ⊥

-- the name that the step would put into the log, or the first of several: the next record of the share; the least control record that is due; the least record or answer row that is held; the least packet that is due; the least time of noted control records that isn't settled; the least group that waits; the least time of taken answer rows that isn't written. Which names are received, the mailbox says. An exchange puts none
abbrev pub IsNext : Outline → ℕ → Worker → Kind → Name → Type 0
IsNext o w worker Ingest x = IsPrefix (worker.log.ingested ++ x ∷ []) (share o w)
IsNext o w worker SendControl x = IsLeast (IsControlDue o w worker.log) x
IsNext o w worker (Route j) x = IsLeast (IsHeld o w worker.log (is_rec j)) x
IsNext o w worker (Receive v) x = Unit {0}
IsNext o w worker (Extract j) x = IsLeast (IsDue o w worker j) x
IsNext o w worker (Settle j) x = IsLeast (IsUnsettled o worker.log j) x
IsNext o w worker (Apply j) x = IsLeast (IsWaiting o w worker.log j) x
IsNext o w worker SendRow x = IsLeast (IsHeld o w worker.log is_row) x
IsNext o w worker Write x = (w ≡ 0) × IsLeast (IsUnwritten worker.log) x
IsNext o w worker Exchange x = ⊥

-- a control record may go out: in a paced job all that moves at earlier times is known to have arrived, since the host of every stage has passed each control time below its own
abbrev pub MaySendControl : Outline → Worker → Name → Type 0
MaySendControl o worker x = o.paced ≡ true → (j i : ℕ) → j < o.stages → i < length o.controls → (control_at o i).time < time_of o x → HasPassed (worker.seen (Host j)) (control_at o i).time

-- a packet may leave: all groups before its time are known to be applied, and the bin is in hand
abbrev pub MayLeave : Outline → ℕ → Worker → ℕ → Name → Type 0
MayLeave o w worker j (Packet i b t) = HasReached (worker.seen (Host j)) t × InHandBefore o w worker.log j b t
MayLeave o w worker j _ = ⊥

-- a time may be settled: the control stream has passed it, and all that moves then is sent
abbrev pub MaySettle : Outline → ℕ → Worker → ℕ → Name → Type 0
MaySettle o w worker j (Settled i t) = HasPassed (worker.seen CtlMail) t × ((b : ℕ) → IsOwedBy o w (Packet j b t) → In (Packet j b t) worker.log.sent)
MaySettle o w worker j _ = ⊥

-- a group may be applied: all records and all packets up to its time have come, the bin is in hand, and it is before the stop time
abbrev pub MayApply : Outline → ℕ → Worker → ℕ → Name → Type 0
MayApply o w worker j (Group i t k) = HasPassed (worker.seen (Mail j)) t × HasPassed (worker.seen (State j)) t × InHand o w worker.log j (o.bin_of k) t × IsBeforeStop o.until t
MayApply o w worker j _ = ⊥

-- what the worker must have seen and hold for the step with this name
abbrev pub IsReady : Outline → ℕ → Worker → Kind → Name → Type 0
IsReady o w worker SendControl x = MaySendControl o worker x
IsReady o w worker (Route j) x = HasPassed (worker.seen CtlMail) (time_of o x)
IsReady o w worker (Extract j) x = MayLeave o w worker j x
IsReady o w worker (Settle j) x = MaySettle o w worker j x
IsReady o w worker (Apply j) x = MayApply o w worker j x
IsReady o w worker Write x = HasPassed (worker.seen OutMail) (time_of o x)
IsReady o w worker _ x = Unit {0}

-- the mailbox to the receiver of the name isn't full
abbrev pub HasRoom : Outline → ℕ → (ℕ → ℕ → List (List Name)) → ℕ → Name → Type 0
HasRoom o depth mailbox w x = length (mailbox w (receiver o x)) < depth

-- the mailbox that the step uses, if it uses one, lets it: there is room, or the first message in it begins with the name
abbrev pub MailAllows : Outline → ℕ → (ℕ → ℕ → List (List Name)) → ℕ → Kind → Name → Type 0
MailAllows o depth mailbox w SendControl x = HasRoom o depth mailbox w x
MailAllows o depth mailbox w (Route j) x = HasRoom o depth mailbox w x
MailAllows o depth mailbox w (Extract j) x = HasRoom o depth mailbox w x
MailAllows o depth mailbox w SendRow x = HasRoom o depth mailbox w x
MailAllows o depth mailbox w (Receive v) x = (rest : List Name) × (others : List (List Name)) × (mailbox v w ≡ (x ∷ rest) ∷ others)
MailAllows o depth mailbox w _ x = Unit {0}

-- the worker's step of this kind has a true condition, and this name is the first that it puts into its log
abbrev pub CanStep : Outline → ℕ → World → ℕ → Kind → Name → Type 0
CanStep o depth world w kind x = IsPlace o w kind × IsNext o w (world.worker w) kind x × IsReady o w (world.worker w) kind x × MailAllows o depth world.mailbox w kind x

-- the worker's exchange has a true condition: its log isn't what it posted, or the board's version isn't the one that it saw
abbrev pub CanExchange : Outline → World → ℕ → Kind → Type 0
CanExchange o world w Exchange = (w < o.workers) × (((world.worker w).log ≡ (world.worker w).posted → ⊥) ⊎ ((world.worker w).version ≡ world.version → ⊥))
CanExchange o world w _ = ⊥

-- Names

-- the names that the worker's step puts into its log, x being the first: one, but for a step that routes records, and one that receives, of which the mailbox says which names the message has
abbrev pub AreNamesOf : Outline → ℕ → Log → Kind → Name → List Name → Type 0
AreNamesOf o w log (Route j) x xs = xs ≡ bundle_of o w log j x
AreNamesOf o w log (Receive v) x xs = (rest : List Name) × (xs ≡ x ∷ rest)
AreNamesOf o w log _ x xs = xs ≡ x ∷ []

-- these names, as the world tells them
abbrev pub names_of : Outline → World → ℕ → Kind → Name → List Name
names_of o world w (Route j) x = bundle_of o w (world.worker w).log j x
names_of o world w (Receive v) x = first_message (world.mailbox v w)
names_of o world w _ x = x ∷ []

-- Effects

-- the log with the names in the list that the kind fills
abbrev pub logged : Kind → Log → List Name → Log
logged Ingest log xs = record log { ingested = log.ingested ++ xs }
logged SendControl log xs = record log { sent = log.sent ++ xs }
logged (Route j) log xs = record log { sent = log.sent ++ xs }
logged (Receive v) log xs = record log { took = log.took ++ xs }
logged (Extract j) log xs = record log { sent = log.sent ++ xs }
logged (Settle j) log xs = record log { settled = log.settled ++ xs }
logged (Apply j) log xs = record log { applied = log.applied ++ xs }
logged SendRow log xs = record log { sent = log.sent ++ xs }
logged Write log xs = record log { settled = log.settled ++ xs }
logged Exchange log xs = log

abbrev pub rest_of : {X : Type 0} → List X → List X
rest_of [] = []
rest_of (x ∷ xs) = xs

-- the message stands last in the mailbox from v to w
abbrev pub pushed : ℕ → ℕ → List Name → (ℕ → ℕ → List (List Name)) → ℕ → ℕ → List (List Name)
pushed v w xs mailbox = put v (put w (mailbox v w ++ xs ∷ []) (mailbox v)) mailbox

-- the first message is gone from the mailbox from v to w
abbrev pub popped : ℕ → ℕ → (ℕ → ℕ → List (List Name)) → ℕ → ℕ → List (List Name)
popped v w mailbox = put v (put w (rest_of (mailbox v w)) (mailbox v)) mailbox

-- the mailboxes after the step of worker w with these names, x being the first
abbrev pub mailed : Outline → ℕ → Kind → Name → List Name → (ℕ → ℕ → List (List Name)) → ℕ → ℕ → List (List Name)
mailed o w SendControl x xs mailbox = pushed w (receiver o x) xs mailbox
mailed o w (Route j) x xs mailbox = pushed w (receiver o x) xs mailbox
mailed o w (Receive v) x xs mailbox = popped v w mailbox
mailed o w (Extract j) x xs mailbox = pushed w (receiver o x) xs mailbox
mailed o w SendRow x xs mailbox = pushed w (receiver o x) xs mailbox
mailed o w _ x xs mailbox = mailbox

-- the world after the step that puts these names into the log, x being the first: one log has these names more, and one end of one mailbox has moved by one message at most
abbrev pub stepped_with : Outline → World → ℕ → Kind → Name → List Name → World
stepped_with o world w kind x xs =
    record world {
      worker = put w (record (world.worker w) { log = logged kind (world.worker w).log xs }) world.worker;
      mailbox = mailed o w kind x xs world.mailbox;
    }

-- the world after the step with this first name
abbrev pub stepped : Outline → World → ℕ → Kind → Name → World
stepped o world w kind x = stepped_with o world w kind x (names_of o world w kind x)

-- the two lists have the same names in the same order
abbrev pub same_names : List Name → List Name → Bool
same_names [] [] = true
same_names (x ∷ xs) (y ∷ ys) = same_name x y && same_names xs ys
same_names _ _ = false

abbrev pub same_log : Log → Log → Bool
same_log a b = same_names a.ingested b.ingested && (same_names a.sent b.sent && (same_names a.took b.took && (same_names a.applied b.applied && same_names a.settled b.settled)))

-- the board's version once the worker has posted its log: one more, where the log isn't what stood there
abbrev pub version_after : World → ℕ → ℕ
version_after world w = cond (same_log (world.worker w).log (world.worker w).posted) world.version (suc world.version)

-- the board's logs once the worker has posted its own
abbrev pub posted_with : World → ℕ → ℕ → Log
posted_with world w = put w (world.worker w).log (posted_logs world)

-- the worker after an exchange: its log is posted, and it has seen the frontiers and the version after that
abbrev pub having_seen : Outline → World → ℕ → Worker
having_seen o world w = record { log = (world.worker w).log; posted = (world.worker w).log; seen = frontier_of o (posted_with world w); version = version_after world w }

-- the world after an exchange
abbrev pub exchanged : Outline → World → ℕ → World
exchanged o world w = record world { worker = put w (having_seen o world w) world.worker; version = version_after world w }
