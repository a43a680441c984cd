-- What holds in every run of the machine: for each sound outline, each depth of the mailboxes and each list of steps.
use Rattle.std.specs.Prelude.{◌≡◌, ◌↔◌, ℕ, ◌+◌, ◌*◌, ◌<◌, ◌≤◌, ◌⊎◌, true, false, ◌==◌, All, List, [], ◌∷◌, ◌++◌, length, filter}
use Rattle.std.specs.List.{Contains}
use Rattle.mp_names.specs.declared.names.Name.{Name}
use Rattle.mp_names.specs.declared.names.Name.TheVariants.{Ctrl, Packet, Row, Group, Written}
use Rattle.mp_names.specs.declared.names.Tag.{Tag}
use Rattle.mp_names.specs.declared.locations.Loc.{Loc}
use Rattle.mp_names.specs.declared.locations.Loc.TheVariants.{Host, OutMail}
use Rattle.mp_names.specs.declared.locations.Frontier.{Frontier}
use Rattle.mp_names.specs.declared.kinds.Kind.{Kind}
use Rattle.mp_names.specs.declared.kinds.Kind.TheVariants.{Receive, Extract, Apply}
use Rattle.mp_names.specs.Names.{has, In, Distinct, is_group, is_settled, is_written}
use Rattle.mp_names.specs.Outlines.{Outline, OutlineIsSound, IsBeforeStop, control_at, time_of, owner_at, group_owner, IsMove, groups_of, control_times, answer_times, sender, receiver, IsOwedBy, IsOwedTo, share, name_count}
use Rattle.mp_names.specs.Logs.{Log, LogIsLegal, LogGrows, InHandBefore, EarlierApplied, owned_groups, is_opening_here}
use Rattle.mp_names.specs.Frontiers.{IsFrontier, HasPassed, frontier_of, IsClosed, IsClosedForOne}
use Rattle.mp_names.specs.Keeping.{GroupIsWhole}
use Rattle.mp_machine.specs.Worlds.{Worker, World, posted_logs, start_of_machine}
use Rattle.mp_machine.specs.Messages.{joined, IsMessage}
use Rattle.mp_machine.specs.Steps.{KindFits, IsPlace, IsNext, IsReady, MaySendControl, CanStep, CanExchange, AreNamesOf, names_of, logged, stepped, version_after, exchanged}
use Rattle.mp_machine.specs.Runs.{Did, Saw, NotNow, turn_of_machine, step_of_machine, world_after, run_of_machine, turns_of, made_count, IsFinished, WorkerIsFinished}
use Rattle.mp_machine.specs.Places.{places}
use Rattle.mp_machine.specs.Holding.{IsOnTheWay, HasOneHolder, HasOnePacket, Holds}

-- Turns and conditions

-- a step puts names into the log exactly where its condition is true with the first of them, and they are so many as go with that one
abbrev pub DidTells : Type 0
DidTells = (o : Outline) (depth : ℕ) (world : World) (w : ℕ) (kind : Kind) (x : Name) (n : ℕ) → OutlineIsSound o → ((turn_of_machine o depth world w kind ≡ Did x n) ↔ (CanStep o depth world w kind x × (n ≡ length (names_of o world w kind x))))

-- a step sees a version exactly where it is an exchange whose condition is true, and what it sees is the board's version after that
abbrev pub SawTells : Type 0
SawTells = (o : Outline) (depth : ℕ) (world : World) (w : ℕ) (kind : Kind) (version : ℕ) → ((turn_of_machine o depth world w kind ≡ Saw version) ↔ (CanExchange o world w kind × (version ≡ version_after world w)))

-- a step is NotNow exactly where its condition is false
abbrev pub NotNowTells : Type 0
NotNowTells = (o : Outline) (depth : ℕ) (world : World) (w : ℕ) (kind : Kind) → OutlineIsSound o → ((turn_of_machine o depth world w kind ≡ NotNow) ↔ (((x : Name) → CanStep o depth world w kind x → ⊥) × (CanExchange o world w kind → ⊥)))

-- A step that puts names into the log has the effect of its kind with the first of them, an exchange has that of an exchange, and NotNow changes nothing
pub record EffectFollowsTurn (o : Outline) (depth : ℕ) (world : World) (w : ℕ) (kind : Kind) : Type 0 where
  pub did : (x : Name) (n : ℕ) → turn_of_machine o depth world w kind ≡ Did x n → step_of_machine o depth world w kind ≡ stepped o world w kind x
  pub saw : (version : ℕ) → turn_of_machine o depth world w kind ≡ Saw version → step_of_machine o depth world w kind ≡ exchanged o world w
  pub not_now : turn_of_machine o depth world w kind ≡ NotNow → step_of_machine o depth world w kind ≡ world

abbrev pub EffectsFollowTurns : Type 0
EffectsFollowTurns = (o : Outline) (depth : ℕ) (world : World) (w : ℕ) (kind : Kind) → EffectFollowsTurn o depth world w kind

-- So the function makes the step of a true condition, and where the condition is false it changes nothing
pub record StepFollowsCondition (o : Outline) (depth : ℕ) (world : World) (w : ℕ) (kind : Kind) : Type 0 where
  pub name : (x : Name) → CanStep o depth world w kind x → step_of_machine o depth world w kind ≡ stepped o world w kind x
  pub exchange : CanExchange o world w kind → step_of_machine o depth world w kind ≡ exchanged o world w
  pub nothing : ((x : Name) → CanStep o depth world w kind x → ⊥) → (CanExchange o world w kind → ⊥) → step_of_machine o depth world w kind ≡ world

abbrev pub StepsFollowConditions : Type 0
StepsFollowConditions = (o : Outline) (depth : ℕ) (world : World) (w : ℕ) (kind : Kind) → OutlineIsSound o → StepFollowsCondition o depth world w kind

-- a condition is true with one first name at most
abbrev pub OneNameAtMost : Type 0
OneNameAtMost = (o : Outline) (depth : ℕ) (world : World) (w : ℕ) (kind : Kind) (x y : Name) → OutlineIsSound o → CanStep o depth world w kind x → CanStep o depth world w kind y → x ≡ y

-- the places of the outline are listed
abbrev pub PlacesAreListed : Type 0
PlacesAreListed = (o : Outline) (w : ℕ) (kind : Kind) → IsPlace o w kind → Contains (places o) (w, kind)

-- and there are so many of them
abbrev pub PlacesAreCounted : Type 0
PlacesAreCounted = (o : Outline) → length (places o) ≡ o.workers * (4 * o.stages + o.workers + 5)

-- The control record at k has the latest of the control times below t
pub record IsLatestBelow (o : Outline) (t k : ℕ) : Type 0 where
  pub listed : k < length o.controls
  pub below : (control_at o k).time < t
  pub last : (i : ℕ) → i < length o.controls → (control_at o i).time < t → (control_at o i).time ≤ (control_at o k).time

-- where no control time is below that of a control record, it may go out
abbrev pub FirstTimesMayGo : Type 0
FirstTimesMayGo = (o : Outline) (worker : Worker) (x : Name) → ((i : ℕ) → i < length o.controls → time_of o x ≤ (control_at o i).time) → MaySendControl o worker x

-- else it may in a paced job exactly where the host of every stage has passed the latest of them
abbrev pub LatestTimeDecides : Type 0
LatestTimeDecides = (o : Outline) (worker : Worker) (x : Name) (k : ℕ) → o.paced ≡ true → IsLatestBelow o (time_of o x) k → (MaySendControl o worker x ↔ ((j : ℕ) → j < o.stages → HasPassed (worker.seen (Host j)) (control_at o k).time))

-- One worker

-- of the names of a message that comes by mail the worker knows that they are owed to it, that it didn't take them before, and that each is there once
abbrev pub ComesRightly : Outline → ℕ → Log → Kind → List Name → Type 0
ComesRightly o w log (Receive v) xs = Distinct xs × ((x : Name) → In x xs → IsOwedTo o w x × (has log.took x ≡ false))
ComesRightly o w log _ xs = Unit {0}

-- each step keeps the log of its worker legal, by what this worker saw alone: that where a frontier that it saw has passed a time, its own part is done in its own log
abbrev pub StepsKeepLogsLegal : Type 0
StepsKeepLogsLegal =
    (o : Outline) (w : ℕ) (worker : Worker) (kind : Kind) (x : Name) (xs : List Name)
    → OutlineIsSound o
    → w < o.workers
    → KindFits o kind
    → LogIsLegal o w worker.log
    → ((at : Loc) (t : ℕ) → HasPassed (worker.seen at) t → IsClosedForOne o w worker.log at t)
    → IsNext o w worker kind x
    → IsReady o w worker kind x
    → AreNamesOf o w worker.log kind x xs
    → ComesRightly o w worker.log kind xs
    → LogIsLegal o w (logged kind worker.log xs)

-- The worker has done all that it has to do
pub record LogIsFull (o : Outline) (w : ℕ) (log : Log) : Type 0 where
  pub ingested : log.ingested ≡ share o w
  pub sent : (x : Name) → IsOwedBy o w x → In x log.sent
  pub took : (x : Name) → IsOwedTo o w x → In x log.took
  pub applied : (j : ℕ) → j < o.stages → filter (is_group j) log.applied ≡ owned_groups o w j
  pub settled : (j : ℕ) → j < o.stages → filter (is_settled j) log.settled ≡ control_times o j
  pub written : w ≡ 0 → filter is_written log.settled ≡ answer_times o

-- a legal log is full once its own part is closed everywhere, up to the stop time if there is one, and on worker 0 every taken row is written
abbrev pub ClosedLogsAreFull : Type 0
ClosedLogsAreFull =
    (o : Outline) (w : ℕ) (log : Log) → OutlineIsSound o → w < o.workers → LogIsLegal o w log → ((t : ℕ) → IsBeforeStop o.until t → IsClosedForOne o w log OutMail t) → (w ≡ 0 → (t : ℕ) (g : Tag) → In (Row t g) log.took → In (Written t) log.settled) → LogIsFull o w log

-- Runs

-- P holds of every world that a run reaches
abbrev pub InEveryRun : (Outline → ℕ → World → Type 0) → Type 0
InEveryRun P = (o : Outline) (depth : ℕ) (steps : List (ℕ × Kind)) → OutlineIsSound o → P o depth (run_of_machine o depth steps)

-- P holds of every world that a run reaches and each world that the same run reaches later
abbrev pub AsRunsGoOn : (Outline → World → World → Type 0) → Type 0
AsRunsGoOn P = (o : Outline) (depth : ℕ) (steps more : List (ℕ × Kind)) → OutlineIsSound o → P o (run_of_machine o depth steps) (run_of_machine o depth (steps ++ more))

-- a run goes on from where it stood, and has the turns of its parts
abbrev pub RunsContinue : Type 0
RunsContinue =
    (o : Outline) (depth : ℕ) (steps more : List (ℕ × Kind)) → (run_of_machine o depth (steps ++ more) ≡ world_after o depth (run_of_machine o depth steps) more) × (turns_of o depth (start_of_machine o) (steps ++ more) ≡ turns_of o depth (start_of_machine o) steps ++ turns_of o depth (run_of_machine o depth steps) more)

-- Logs, mailboxes and frontiers

-- each log and each posted log is legal, and the posted one is a beginning of the log
abbrev pub LogsAreAlwaysLegal : Type 0
LogsAreAlwaysLegal = InEveryRun (λ o depth world. (w : ℕ) → w < o.workers → LogIsLegal o w (world.worker w).log × LogIsLegal o w (world.worker w).posted × LogGrows (world.worker w).posted (world.worker w).log)

-- logs and posted logs only grow
abbrev pub LogsOnlyGrow : Type 0
LogsOnlyGrow = AsRunsGoOn (λ o old new. (w : ℕ) → w < o.workers → LogGrows (old.worker w).log (new.worker w).log × LogGrows (old.worker w).posted (new.worker w).posted)

-- what w took from v, and then the names of the messages that wait in the mailbox between them, is what v sent to w, in that order; and no mailbox holds more messages than its depth
abbrev pub MailComesInOrder : Type 0
MailComesInOrder =
    InEveryRun (λ o depth world. (v w : ℕ) → v < o.workers → w < o.workers → (filter (λ x. sender o x == v) (world.worker w).log.took ++ joined (world.mailbox v w) ≡ filter (λ x. receiver o x == w) (world.worker v).log.sent) × (length (world.mailbox v w) ≤ depth))

-- all that waits in a mailbox is a message, as the definition says it
abbrev pub MailIsOfMessages : Type 0
MailIsOfMessages = InEveryRun (λ o depth world. (v w : ℕ) → v < o.workers → w < o.workers → All (IsMessage o) (world.mailbox v w))

-- where records travel singly, each step puts one name into the log, and each message has one name
abbrev pub OneNameTravels : Type 0
OneNameTravels =
    InEveryRun (λ o depth world. o.bundle ≡ 1 → ((w : ℕ) (kind : Kind) (x : Name) → CanStep o depth world w kind x → names_of o world w kind x ≡ x ∷ []) × ((v w : ℕ) → v < o.workers → w < o.workers → All (λ xs. length xs ≡ 1) (world.mailbox v w)))

-- no frontier that a worker saw goes back
abbrev pub SeenFrontiersNeverGoBack : Type 0
SeenFrontiersNeverGoBack = AsRunsGoOn (λ o old new. (w : ℕ) → w < o.workers → (at : Loc) (t : ℕ) → HasPassed ((old.worker w).seen at) t → HasPassed ((new.worker w).seen at) t)

-- no frontier of the board goes back
abbrev pub BoardFrontiersNeverGoBack : Type 0
BoardFrontiersNeverGoBack = AsRunsGoOn (λ o old new. (at : Loc) (f g : Frontier) (t : ℕ) → IsFrontier o (posted_logs old) at f → IsFrontier o (posted_logs new) at g → HasPassed f t → HasPassed g t)

-- a frontier of the board has passed a time exactly where its location is closed in the posted logs
abbrev pub BoardFrontiersAreExact : Type 0
BoardFrontiersAreExact = InEveryRun (λ o depth world. (at : Loc) (f : Frontier) (t : ℕ) → IsFrontier o (posted_logs world) at f → (HasPassed f t ↔ IsClosed o (posted_logs world) at t))

-- where a frontier that a worker saw has passed a time, all is done at and before its location in the posted logs, and the worker's own part in its log
abbrev pub WhatIsSeenIsDone : Type 0
WhatIsSeenIsDone =
    InEveryRun (λ o depth world. (w : ℕ) → w < o.workers → (at : Loc) (t : ℕ) → HasPassed ((world.worker w).seen at) t → IsClosed o (posted_logs world) at t × IsClosedForOne o w (world.worker w).log at t)

-- no worker has seen a later version than the board's, and one that saw the board's version saw the board's frontiers
abbrev pub VersionsTell : Type 0
VersionsTell =
    InEveryRun (λ o depth world. (w : ℕ) → w < o.workers → ((world.worker w).version ≤ world.version) × ((world.worker w).version ≡ world.version → (at : Loc) → (world.worker w).seen at ≡ frontier_of o (posted_logs world) at))

-- Single ownership

-- each bin of each stage has exactly one holder or exactly one packet on the way, never both
abbrev pub BinsAreInOnePlace : Type 0
BinsAreInOnePlace = InEveryRun (λ o depth world. (j b : ℕ) → j < o.stages → b < o.bins → HasOneHolder o world j b ⊎ HasOnePacket o world j b)

-- a wake that the job has from the start goes with its bin: until its group is applied it is in hand of the worker that holds the bin, and of no other
abbrev pub OpeningWakesGoWithBins : Type 0
OpeningWakesGoWithBins =
    InEveryRun (λ o depth world. (j u k w : ℕ) → w < o.workers → In (Group j u k) (o.opening j) → has (world.worker (group_owner o j u k)).log.applied (Group j u k) ≡ false → (is_opening_here o w (world.worker w).log j u k ≡ true ↔ Holds o world j (o.bin_of k) w))

-- when a group is applied, it is its worker's with all that belongs to it, and no worker has applied it before
abbrev pub GroupsAreAppliedWhole : Type 0
GroupsAreAppliedWhole =
    InEveryRun (λ o depth world. (w i j t k n : ℕ) → turn_of_machine o depth world w (Apply i) ≡ Did (Group j t k) n → GroupIsWhole o w (world.worker w).log j t k × ((v : ℕ) → v < o.workers → has (world.worker v).log.applied (Group j t k) ≡ false))

-- only the owner of a group applies it
abbrev pub OwnersApply : Type 0
OwnersApply = InEveryRun (λ o depth world. (w j t k : ℕ) → w < o.workers → In (Group j t k) (world.worker w).log.applied → group_owner o j t k ≡ w)

-- no group from the stop time on is applied
abbrev pub GroupsWaitAtTheStop : Type 0
GroupsWaitAtTheStop = InEveryRun (λ o depth world. (w j t k : ℕ) → w < o.workers → In (Group j t k) (world.worker w).log.applied → IsBeforeStop o.until t)

-- when a packet leaves, the bin is in hand, and every group of it below the packet's time that the sender owns is applied
abbrev pub PacketsLeaveLast : Type 0
PacketsLeaveLast =
    InEveryRun (λ o depth world. (w i j b t n : ℕ) → turn_of_machine o depth world w (Extract i) ≡ Did (Packet j b t) n → InHandBefore o w (world.worker w).log j b t × EarlierApplied o w (world.worker w).log j b t)

-- where a packet of a bin is sent, those of all its earlier moves are taken
abbrev pub PacketsFollowMoves : Type 0
PacketsFollowMoves = InEveryRun (λ o depth world. (w j b m n : ℕ) → w < o.workers → In (Packet j b m) (world.worker w).log.sent → n < m → IsMove o j b n → In (Packet j b n) (world.worker (owner_at o j b n)).log.took)

-- every group of the bin at an earlier time is applied, each by its owner
abbrev pub BinIsAppliedBelow : Outline → World → ℕ → ℕ → ℕ → Type 0
BinIsAppliedBelow o world j b t = (u k : ℕ) → u < t → o.bin_of k ≡ b → In (Group j u k) (groups_of o j) → In (Group j u k) (world.worker (group_owner o j u k)).log.applied

-- When a group is applied or a packet leaves, all earlier groups of the bin are applied, whoever owned it then: no update is lost or overtaken where a bin moves
pub record BinsAreAppliedInOrder (o : Outline) (depth : ℕ) (world : World) : Type 0 where
  pub groups : (w i j t k n : ℕ) → turn_of_machine o depth world w (Apply i) ≡ Did (Group j t k) n → BinIsAppliedBelow o world j (o.bin_of k) t
  pub packets : (w i j b t n : ℕ) → turn_of_machine o depth world w (Extract i) ≡ Did (Packet j b t) n → BinIsAppliedBelow o world j b t

abbrev pub UpdatesComeInOrder : Type 0
UpdatesComeInOrder = InEveryRun BinsAreAppliedInOrder

-- Pacing

-- in a paced job, where a control record is sent, every packet of a time below its own is taken
abbrev pub ControlsWaitForPackets : Type 0
ControlsWaitForPackets =
    InEveryRun (λ o depth world. o.paced ≡ true → (w i v j b t : ℕ) → w < o.workers → In (Ctrl i v) (world.worker w).log.sent → IsMove o j b t → t < (control_at o i).time → In (Packet j b t) (world.worker (owner_at o j b t)).log.took)

-- in a paced job all packets that are sent and not taken have one time
abbrev pub PacketsHaveOneTime : Type 0
PacketsHaveOneTime = InEveryRun (λ o depth world. o.paced ≡ true → (j b t i c u : ℕ) → IsMove o j b t → IsMove o i c u → IsOnTheWay o world j b t → IsOnTheWay o world i c u → t ≡ u)

-- The end

-- where all is over, every log is full
abbrev pub FinishedRunsAreFull : Type 0
FinishedRunsAreFull = InEveryRun (λ o depth world. IsFinished o world → (w : ℕ) → w < o.workers → LogIsFull o w (world.worker w).log)

-- every group before the stop time is applied, by its owner
abbrev pub FinishedRunsApplyAll : Type 0
FinishedRunsApplyAll = InEveryRun (λ o depth world. IsFinished o world → (j t k : ℕ) → In (Group j t k) (groups_of o j) → IsBeforeStop o.until t → In (Group j t k) (world.worker (group_owner o j t k)).log.applied)

-- a worker that knows that all is over has a full log
abbrev pub FinishedWorkersAreFull : Type 0
FinishedWorkersAreFull = InEveryRun (λ o depth world. (w : ℕ) → w < o.workers → WorkerIsFinished o world w → LogIsFull o w (world.worker w).log)

-- all is over, and every worker knows it
abbrev pub IsOver : Outline → World → Type 0
IsOver o world = IsFinished o world × ((w : ℕ) → w < o.workers → WorkerIsFinished o world w)

-- where every worker knows it, all is over
abbrev pub FinishedWorkersEndTheRun : Type 0
FinishedWorkersEndTheRun = InEveryRun (λ o depth world. ((w : ℕ) → w < o.workers → WorkerIsFinished o world w) → IsFinished o world)

-- where no place has a step with a true condition, all is over and every worker knows it: so no run is stuck, whatever the depth of its mailboxes, if it is at least 1
abbrev pub NeverStuck : Type 0
NeverStuck = InEveryRun (λ o depth world. 0 < depth → ((w : ℕ) (kind : Kind) → IsPlace o w kind → turn_of_machine o depth world w kind ≡ NotNow) → IsOver o world)

-- so until all is over and every worker knows it, one of the places has a step with a true condition
abbrev pub SomeoneCanStep : Type 0
SomeoneCanStep = InEveryRun (λ o depth world. 0 < depth → IsOver o world ⊎ ((p : ℕ × Kind) × Contains (places o) p × (turn_of_machine o depth world p.0 p.1 ≡ NotNow → ⊥)))

-- the steps of a run that are made, and not NotNow, are at most so many for each name of the job
abbrev pub StepsAreBoundedBy : (Outline → ℕ) → Type 0
StepsAreBoundedBy each = (o : Outline) (depth : ℕ) (steps : List (ℕ × Kind)) → OutlineIsSound o → made_count (turns_of o depth (start_of_machine o) steps) ≤ each o * name_count o

abbrev pub StepsAreBounded : Type 0
StepsAreBounded = StepsAreBoundedBy (λ o. o.workers + 2)

-- one for each name that steps add, and one for each worker that sees it posted
abbrev pub StepsAreBoundedClosely : Type 0
StepsAreBoundedClosely = StepsAreBoundedBy (λ o. o.workers + 1)
