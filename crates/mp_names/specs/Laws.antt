-- The laws of these definitions, each for every outline and all logs.
use Rattle.std.specs.Prelude.{◌≡◌, ◌↔◌, ◌⊎◌, ℕ, zero, suc, ◌+◌, ◌<◌, ◌≤◌, true, false, length}
use Rattle.mp_names.specs.declared.names.Name.{Name}
use Rattle.mp_names.specs.declared.names.Name.TheVariants.{Rec, Packet, Row, Group, Settled, Written}
use Rattle.mp_names.specs.declared.names.Tag.{Tag}
use Rattle.mp_names.specs.declared.locations.Loc.{Loc}
use Rattle.mp_names.specs.declared.locations.Loc.TheVariants.{OutMail}
use Rattle.mp_names.specs.declared.locations.Frontier.{Frontier}
use Rattle.mp_names.specs.Names.{In, Distinct, IsAscending}
use Rattle.mp_names.specs.Controls.{is_below, IsLastBelow}
use Rattle.mp_names.specs.Outlines.{Outline, OutlineIsSound, IsBeforeStop, control_at, owner_before, IsMove, packets_of, is_posted, groups_of, HasControl, control_times, answer_times, IsOwed, IsOwedBy, IsOwedTo, owed_names, owed_by, owed_to, name_count}
use Rattle.mp_names.specs.Logs.{Log, empty_log, LogIsLegal, LogGrows, LogsAreLegal, LogsGrow, is_pending}
use Rattle.mp_names.specs.Locations.{Reaches, reaches}
use Rattle.mp_names.specs.Frontiers.{IsFrontier, HasPassed, frontier_of, IsClosed, IsClosedForOne}
use Rattle.mp_names.specs.Keeping.{NamesKeepLogsLegal}

-- for all posted logs, each legal by itself and from whatever moments: a frontier has passed a time exactly where its location is closed
abbrev pub FrontiersAreExact : Type 0
FrontiersAreExact =
    (o : Outline) (logs : ℕ → Log) → OutlineIsSound o → LogsAreLegal o logs → (at : Loc) (f : Frontier) (t : ℕ) → IsFrontier o logs at f → (HasPassed f t ↔ IsClosed o logs at t)

-- each location has a frontier, the one that the search finds
abbrev pub FrontiersExist : Type 0
FrontiersExist = (o : Outline) (logs : ℕ → Log) → OutlineIsSound o → LogsAreLegal o logs → (at : Loc) → IsFrontier o logs at (frontier_of o logs at)

-- a location has no other frontier
abbrev pub FrontiersAreUnique : Type 0
FrontiersAreUnique = (o : Outline) (logs : ℕ → Log) (at : Loc) (f g : Frontier) → IsFrontier o logs at f → IsFrontier o logs at g → f ≡ g

-- as logs grow, what a frontier has passed stays passed
abbrev pub FrontiersNeverGoBack : Type 0
FrontiersNeverGoBack =
    (o : Outline) (old new : ℕ → Log) → OutlineIsSound o → LogsAreLegal o old → LogsAreLegal o new → LogsGrow o old new → (at : Loc) (f g : Frontier) (t : ℕ) → IsFrontier o old at f → IsFrontier o new at g → HasPassed f t → HasPassed g t

-- where a frontier has passed a time, each worker's part is done in its own log, and stays done as that log grows
abbrev pub FrontiersTellEachWorker : Type 0
FrontiersTellEachWorker =
    (o : Outline) (logs : ℕ → Log) → OutlineIsSound o → LogsAreLegal o logs → (at : Loc) (f : Frontier) (t : ℕ) → IsFrontier o logs at f → HasPassed f t → (w : ℕ) (log : Log) → w < o.workers → LogGrows (logs w) log → IsClosedForOne o w log at t

-- the table says which locations could result in which
abbrev pub TableIsRight : Type 0
TableIsRight = (a b : Loc) → ((reaches a b ≡ true) ↔ Reaches a b)

-- a bin's owner is the worker of its last control record, by time and then by place in the list; without one, the first owner
abbrev pub OwnersFollowControls : Type 0
OwnersFollowControls =
    (o : Outline) (j b t : ℕ) → ((i : ℕ) → IsLastBelow o.controls j b t i → owner_before o j b t ≡ (control_at o i).worker) × (((i : ℕ) → i < length o.controls → is_below j b t (control_at o i) ≡ false) → owner_before o j b t ≡ o.first_owner j b)

-- the packets of all moves are listed, each once and in order
abbrev pub MovesAreListed : Type 0
MovesAreListed = (o : Outline) → IsAscending (packets_of o) × ((j b t : ℕ) → (In (Packet j b t) (packets_of o) ↔ IsMove o j b t))

-- the names that have to be sent are listed, each once; so are those that one worker has to send, or to take
abbrev pub OwedNamesAreListed : Type 0
OwedNamesAreListed =
    (o : Outline) → OutlineIsSound o → Distinct (owed_names o) × ((x : Name) → (In x (owed_names o) ↔ IsOwed o x)) × ((w : ℕ) (x : Name) → (In x (owed_by o w) ↔ IsOwedBy o w x)) × ((w : ℕ) (x : Name) → (In x (owed_to o w) ↔ IsOwedTo o w x))

-- a record of the key is of the time, or posts it
abbrev pub IsMade : Outline → ℕ → ℕ → ℕ → Type 0
IsMade o j t k = (s : ℕ) × (g : Tag) × In (Rec j s k g) (o.records j) × ((s ≡ t) ⊎ (is_posted o (Rec j s k g) t ≡ true))

-- why a group is there: it is an opening wake, or a record makes it
abbrev pub IsCaused : Outline → ℕ → ℕ → ℕ → Type 0
IsCaused o j t k = In (Group j t k) (o.opening j) ⊎ IsMade o j t k

-- the groups of a stage are listed, each once and in order
abbrev pub GroupsAreListed : Type 0
GroupsAreListed = (o : Outline) → OutlineIsSound o → (j : ℕ) → IsAscending (groups_of o j) × ((t k : ℕ) → (In (Group j t k) (groups_of o j) ↔ IsCaused o j t k))

-- at the start the groups that wait are those of opening wakes, each with the first owner of its key's bin
abbrev pub OpeningWakesAreInHand : Type 0
OpeningWakesAreInHand = (o : Outline) (w j t k : ℕ) → ((is_pending o w empty_log (Group j t k) ≡ true) ↔ (In (Group j t k) (o.opening j) × (o.first_owner j (o.bin_of k) ≡ w)))

-- the times of a stage's control records are listed, each once and in order
abbrev pub ControlTimesAreListed : Type 0
ControlTimesAreListed = (o : Outline) (j : ℕ) → IsAscending (control_times o j) × ((t : ℕ) → (In (Settled j t) (control_times o j) ↔ HasControl o j t))

-- the times of the answer rows are listed, each once and in order
abbrev pub AnswerTimesAreListed : Type 0
AnswerTimesAreListed = (o : Outline) → OutlineIsSound o → IsAscending (answer_times o) × ((t : ℕ) → (In (Written t) (answer_times o) ↔ ((g : Tag) × In (Row t g) o.rows)))

-- the empty log is legal
abbrev pub EmptyLogsAreLegal : Type 0
EmptyLogsAreLegal = (o : Outline) (w : ℕ) → LogIsLegal o w empty_log

-- every next name that a step puts into a legal log keeps it legal
abbrev pub LogsStayLegal : Type 0
LogsStayLegal = (o : Outline) (w : ℕ) (log : Log) → OutlineIsSound o → w < o.workers → LogIsLegal o w log → NamesKeepLogsLegal o w log

-- How many names there are

abbrev pub log_size : Log → ℕ
log_size log = length log.ingested + length log.sent + length log.took + length log.applied + length log.settled

-- the names in the logs of the workers below n
abbrev pub names_in : ℕ → (ℕ → Log) → ℕ
names_in zero logs = 0
names_in (suc n) logs = names_in n logs + log_size (logs n)

-- legal logs hold at most so many names as the job has
abbrev pub LogsAreBounded : Type 0
LogsAreBounded = (o : Outline) (logs : ℕ → Log) → OutlineIsSound o → LogsAreLegal o logs → names_in o.workers logs ≤ name_count o

-- where all is closed, up to the stop time if there is one, and every answer time is written they hold just so many
abbrev pub FinishedLogsAreFull : Type 0
FinishedLogsAreFull =
    (o : Outline) (logs : ℕ → Log) → OutlineIsSound o → LogsAreLegal o logs → ((t : ℕ) → IsBeforeStop o.until t → IsClosed o logs OutMail t) → ((x : Name) → In x (answer_times o) → In x (logs 0).settled) → names_in o.workers logs ≡ name_count o
