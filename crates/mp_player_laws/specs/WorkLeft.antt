-- What is left to do, by location and time, and the frontiers that it shows.
use Rattle.std.specs.Prelude.{◌≡◌, ◌↔◌, ℕ, zero, suc, ◌+◌, not, ◌&&◌, ◌==◌, List, filter, count_by, length, Option, None, Some, pos}
use Rattle.mp_names.specs.declared.names.Name.{Name}
use Rattle.mp_names.specs.declared.names.Name.TheVariants.{Ctrl, Rec, Packet}
use Rattle.mp_names.specs.declared.kinds.Kind.{Kind}
use Rattle.mp_names.specs.declared.kinds.Kind.TheVariants.{Ingest, SendControl, Route as RouteStep, Receive, Extract, Settle, Apply, SendRow, Write, Exchange}
use Rattle.mp_names.specs.declared.locations.Loc.{Loc}
use Rattle.mp_names.specs.declared.locations.Loc.TheVariants.{Ctl, CtlMail, Source, Route, Mail, Move, State, Host, OutRoute, OutMail}
use Rattle.mp_names.specs.declared.locations.Frontier.{Frontier}
use Rattle.mp_names.specs.Names.{has, In, is_ctrl, is_rec, is_packet, is_row}
use Rattle.mp_names.specs.Outlines.{Outline, OutlineIsSound, time_of, groups_of, owed_by, owed_to, share, control_times, answer_times, IsBeforeStop}
use Rattle.mp_names.specs.Logs.{Log, LogsAreLegal, is_owned}
use Rattle.mp_names.specs.Frontiers.{IsFrontierOf, frontier_of, IsDoneBy}
use Rattle.mp_machine.specs.Worlds.{World, posted_logs}
use Rattle.mp_machine.specs.Steps.{CanStep, logged, names_of}
use Rattle.mp_machine.specs.Runs.{IsFinished}
use Rattle.mp_machine.specs.Promises.{InEveryRun}

-- how many names of the list have the time and aren't among those that are done
abbrev pub undone : Outline → ℕ → List Name → List Name → ℕ
undone o t all done = count_by (λ x. not (has done x) && time_of o x == t) all

-- the groups of a stage that the worker owns, with those that wait at the stop time for ever
abbrev pub hosted_groups : Outline → ℕ → ℕ → List Name
hosted_groups o w j = filter (is_owned o w) (groups_of o j)

-- how many names a worker still has to do at a location and time: to send, to take, to ingest, to settle or to apply
abbrev pub left_at : Outline → ℕ → Log → Loc → ℕ → ℕ
left_at o w log Ctl t = undone o t (filter is_ctrl (owed_by o w)) log.sent
left_at o w log CtlMail t = undone o t (filter is_ctrl (owed_to o w)) log.took
left_at o w log Source t = undone o t (share o w) log.ingested
left_at o w log (Route j) t = undone o t (filter (is_rec j) (owed_by o w)) log.sent
left_at o w log (Mail j) t = undone o t (filter (is_rec j) (owed_to o w)) log.took
left_at o w log (Move j) t = undone o t (control_times o j) log.settled + undone o t (filter (is_packet j) (owed_by o w)) log.sent
left_at o w log (State j) t = undone o t (filter (is_packet j) (owed_to o w)) log.took
left_at o w log (Host j) t = undone o t (hosted_groups o w j) log.applied
left_at o w log OutRoute t = undone o t (filter is_row (owed_by o w)) log.sent
left_at o w log OutMail t = undone o t (filter is_row (owed_to o w)) log.took

abbrev pub added_below : ℕ → (ℕ → ℕ) → ℕ
added_below zero f = 0
added_below (suc n) f = added_below n f + f n

-- and all workers together
abbrev pub work_left : Outline → (ℕ → Log) → Loc → ℕ → ℕ
work_left o logs a t = added_below o.workers (λ w. left_at o w (logs w) a t)

-- where nothing is left all is done
abbrev pub NothingLeftIsDone : Type 0
NothingLeftIsDone = (o : Outline) (w : ℕ) (log : Log) (a : Loc) (t : ℕ) → OutlineIsSound o → ((left_at o w log a t ≡ 0) ↔ IsDoneBy o w log a t)

-- so the frontiers of legal logs are those of the work left, which is never negative and can't cancel out
abbrev pub WorkLeftShowsFrontiers : Type 0
WorkLeftShowsFrontiers =
    (o : Outline) (logs : ℕ → Log) (at : Loc) (f : Frontier)
    → OutlineIsSound o
    → LogsAreLegal o logs
    → IsFrontierOf (λ a t. pos (work_left o logs a t)) at f
    → f ≡ frontier_of o logs at

-- all is over where in the posted logs no work is left, of times before the stop time where there is one, and every time of answer rows is written
abbrev pub EndIsNoWorkLeft : Type 0
EndIsNoWorkLeft =
    (o : Outline) (world : World)
    → OutlineIsSound o
    → LogsAreLegal o (posted_logs world)
    → (IsFinished o world ↔ (((a : Loc) (t : ℕ) → IsBeforeStop o.until t → work_left o (posted_logs world) a t ≡ 0) × ((x : Name) → In x (answer_times o) → In x (world.worker 0).log.settled)))

-- the mailbox location of a name that is received
abbrev pub mail_of : Name → Loc
mail_of (Ctrl i v) = CtlMail
mail_of (Rec j t k g) = Mail j
mail_of (Packet j b t) = State j
mail_of _ = OutMail

-- the location of the work that a step with this first name does; none, where it writes
abbrev pub work_of : Kind → Name → Option Loc
work_of Ingest x = Some Source
work_of SendControl x = Some Ctl
work_of (RouteStep j) x = Some (Route j)
work_of (Receive v) x = Some (mail_of x)
work_of (Extract j) x = Some (Move j)
work_of (Settle j) x = Some (Move j)
work_of (Apply j) x = Some (Host j)
work_of SendRow x = Some OutRoute
work_of Write x = None
work_of Exchange x = None

-- From one log to the next the work left falls by this number at the step's location and the time of its first name, and stays elsewhere
pub record WorkFalls (o : Outline) (w : ℕ) (log new : Log) (kind : Kind) (x : Name) (n : ℕ) : Type 0 where
  pub falls : (a : Loc) → work_of kind x ≡ Some a → left_at o w log a (time_of o x) ≡ left_at o w new a (time_of o x) + n
  pub stays : (a : Loc) (t : ℕ) → (work_of kind x ≡ Some a → t ≡ time_of o x → ⊥) → left_at o w new a t ≡ left_at o w log a t

-- so it is with each step of a run, by the number of its names
abbrev pub StepsDoWork : Type 0
StepsDoWork =
    InEveryRun (λ o depth world.
    (w : ℕ) (kind : Kind) (x : Name)
    → CanStep o depth world w kind x
    → let log = (world.worker w).log in
    WorkFalls o w log (logged kind log (names_of o world w kind x)) kind x (length (names_of o world w kind x)))
