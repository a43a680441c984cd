-- What the posted logs add up to, the frontiers that the sums show, and what it means that a location is closed.
use Rattle.std.specs.Prelude.{◌≡◌, ℕ, zero, suc, ◌<◌, ◌≤◌, min, Bool, true, not, ◌&&◌, ◌==◌, cond, List, [], ◌∷◌, ◌++◌, filter, map, count_by, slice_index_or, Option, None, Some, ℤ, pos, ◌+ℤ◌, ◌-ℤ◌}
use Rattle.std.specs.List.{list_any}
use Rattle.std.specs.Ordering.{int_eq}
use Rattle.mp_names.specs.declared.names.Name.{Name}
use Rattle.mp_names.specs.declared.names.Name.TheVariants.{Settled}
use Rattle.mp_names.specs.declared.locations.Loc.{Loc}
use Rattle.mp_names.specs.declared.locations.Loc.TheVariants.{Ctl, CtlMail, Source, Route, Mail, Move, State, Host, OutRoute, OutMail}
use Rattle.mp_names.specs.declared.locations.Frontier.{Frontier}
use Rattle.mp_names.specs.declared.locations.Frontier.TheVariants.{At, Done}
use Rattle.mp_names.specs.Names.{has, In, joined_below, is_ctrl, is_rec, is_packet, is_row}
use Rattle.mp_names.specs.Outlines.{Outline, time_of, groups_of, HasControl, IsOwedBy, IsOwedTo, ctrl_names, owed_names, share}
use Rattle.mp_names.specs.Logs.{Log, empty_log, is_given, is_pending, is_noted, is_owned}
use Rattle.mp_names.specs.Locations.{Reaches, reaches, locations}

-- Counts

-- how many names of the list pass the test and have the time
abbrev pub number_at : Outline → (Name → Bool) → ℕ → List Name → ℕ
number_at o p t xs = count_by (λ x. p x && time_of o x == t) xs

-- the worker has what it sends on, and hasn't sent it
abbrev pub is_held : Outline → ℕ → Log → Name → Bool
is_held o w log x = is_given o w log x && not (has log.sent x)

-- the names of this test that the worker sent at the time, less those that it took
abbrev pub sent_less_took : Outline → Log → (Name → Bool) → ℕ → ℤ
sent_less_took o log p t = pos (number_at o p t log.sent) -ℤ pos (number_at o p t log.took)

-- what a worker's log adds to the count of a location at a time
abbrev pub contribution : Outline → ℕ → Log → Loc → ℕ → ℤ
contribution o w log Ctl t = pos (number_at o (is_held o w log) t (ctrl_names o))
contribution o w log CtlMail t = sent_less_took o log is_ctrl t
contribution o w log Source t = pos (number_at o (λ x. not (has log.ingested x)) t (share o w))
contribution o w log (Route j) t = pos (number_at o (is_held o w log) t (o.records j))
contribution o w log (Mail j) t = sent_less_took o log (is_rec j) t
contribution o w log (Move j) t = pos (cond (is_noted o log j t && not (has log.settled (Settled j t))) 1 0)
contribution o w log (State j) t = sent_less_took o log (is_packet j) t
contribution o w log (Host j) t = pos (number_at o (is_pending o w log) t (groups_of o j))
contribution o w log OutRoute t = pos (number_at o (is_held o w log) t o.rows)
contribution o w log OutMail t = sent_less_took o log is_row t

abbrev pub sum_below : ℕ → (ℕ → ℤ) → ℤ
sum_below zero f = pos 0
sum_below (suc n) f = sum_below n f +ℤ f n

-- the count of a location at a time: the sum over the posted logs. It may be negative, and it may be zero with work outstanding
abbrev pub count_at : Outline → (ℕ → Log) → Loc → ℕ → ℤ
count_at o logs a t = sum_below o.workers (λ w. contribution o w (logs w) a t)

-- the logs of a list, by worker
abbrev pub log_at : List Log → ℕ → Log
log_at logs w = slice_index_or logs w empty_log

-- Frontiers, of any counts by location and time

-- at this time no count is open that could result in something at the location
abbrev pub IsQuiet : (Loc → ℕ → ℤ) → Loc → ℕ → Type 0
IsQuiet counts at t = (a : Loc) → Reaches a at → counts a t ≡ pos 0

-- the frontier of a location: the least time that isn't quiet, if there is one
abbrev pub IsFrontierOf : (Loc → ℕ → ℤ) → Loc → Frontier → Type 0
IsFrontierOf counts at (At t) = (IsQuiet counts at t → ⊥) × ((u : ℕ) → u < t → IsQuiet counts at u)
IsFrontierOf counts at Done = (u : ℕ) → IsQuiet counts at u

abbrev pub IsFrontier : Outline → (ℕ → Log) → Loc → Frontier → Type 0
IsFrontier o logs at f = IsFrontierOf (count_at o logs) at f

-- the frontier has passed the time
abbrev pub HasPassed : Frontier → ℕ → Type 0
HasPassed (At u) t = t < u
HasPassed Done t = Unit {0}

-- the frontier stands at the time, or has passed it
abbrev pub HasReached : Frontier → ℕ → Type 0
HasReached (At u) t = t ≤ u
HasReached Done t = Unit {0}

-- the frontier has come to the end: it is Done or, where there is a stop time, has reached it
abbrev pub HasEnded : Option ℕ → Frontier → Type 0
HasEnded None f = f ≡ Done
HasEnded (Some stop) f = HasReached f stop

-- The frontier by a search

-- the times of the job's names: nothing else is counted
abbrev pub times_of : Outline → List ℕ
times_of o = map (time_of o) (owed_names o ++ joined_below o.stages (groups_of o))

-- some count isn't zero that could result in something at the location
abbrev pub is_open : Outline → (ℕ → Log) → Loc → ℕ → Bool
is_open o logs at t = list_any (λ a. reaches a at && not (int_eq (count_at o logs a t) (pos 0))) (locations o.stages)

abbrev pub earlier : ℕ → Frontier → Frontier
earlier t (At u) = At (min t u)
earlier t Done = At t

-- the least of the times, if there is one
abbrev pub least_of : List ℕ → Frontier
least_of [] = Done
least_of (t ∷ ts) = earlier t (least_of ts)

abbrev pub frontier_of : Outline → (ℕ → Log) → Loc → Frontier
frontier_of o logs at = least_of (filter (is_open o logs at) (times_of o))

-- Closed, which knows no numbers

-- the worker has sent all names of this test and time that it owes
abbrev pub SentAll : Outline → ℕ → Log → (Name → Bool) → ℕ → Type 0
SentAll o w log p t = (x : Name) → IsOwedBy o w x → p x ≡ true → time_of o x ≡ t → In x log.sent

-- the worker has taken all names of this test and time that are owed to it
abbrev pub TookAll : Outline → ℕ → Log → (Name → Bool) → ℕ → Type 0
TookAll o w log p t = (x : Name) → IsOwedTo o w x → p x ≡ true → time_of o x ≡ t → In x log.took

-- the worker has done all that it has to do at a location and time
abbrev pub IsDoneBy : Outline → ℕ → Log → Loc → ℕ → Type 0
IsDoneBy o w log Ctl t = SentAll o w log is_ctrl t
IsDoneBy o w log CtlMail t = TookAll o w log is_ctrl t
IsDoneBy o w log Source t = (x : Name) → In x (share o w) → time_of o x ≡ t → In x log.ingested
IsDoneBy o w log (Route j) t = SentAll o w log (is_rec j) t
IsDoneBy o w log (Mail j) t = TookAll o w log (is_rec j) t
IsDoneBy o w log (Move j) t = (HasControl o j t → In (Settled j t) log.settled) × SentAll o w log (is_packet j) t
IsDoneBy o w log (State j) t = TookAll o w log (is_packet j) t
IsDoneBy o w log (Host j) t = (x : Name) → In x (groups_of o j) → is_owned o w x ≡ true → time_of o x ≡ t → In x log.applied
IsDoneBy o w log OutRoute t = SentAll o w log is_row t
IsDoneBy o w log OutMail t = TookAll o w log is_row t

-- the worker has done all that could result in something at the location, up to the time
abbrev pub IsClosedForOne : Outline → ℕ → Log → Loc → ℕ → Type 0
IsClosedForOne o w log at t = (a : Loc) (u : ℕ) → Reaches a at → u ≤ t → IsDoneBy o w log a u

-- every worker has done all that could result in something at the location, up to the time
abbrev pub IsClosed : Outline → (ℕ → Log) → Loc → ℕ → Type 0
IsClosed o logs at t = (w : ℕ) → w < o.workers → IsClosedForOne o w (logs w) at t
