-- The lists that a worker goes along, each with the steps of one kind, and what decides these steps.
use Rattle.std.specs.Prelude.{◌≡◌, ◌↔◌, ℕ, ◌-◌, ◌<◌, Bool, true, false, List, [], Option, None, Some}
use Rattle.mp_names.specs.declared.names.Name.{Name}
use Rattle.mp_names.specs.declared.kinds.Kind.{Kind}
use Rattle.mp_names.specs.declared.kinds.Kind.TheVariants.{Ingest, SendControl, Route, Receive, Extract, Settle, Apply, SendRow, Write, Exchange}
use Rattle.mp_names.specs.declared.locations.Loc.TheVariants.{CtlMail, Mail, State, Host, OutMail}
use Rattle.mp_names.specs.Outlines.{Outline, time_of, share, control_times, answer_times}
use Rattle.mp_names.specs.Logs.{owned_groups}
use Rattle.mp_names.specs.Frontiers.{HasPassed, HasReached}
use Rattle.mp_machine.specs.Worlds.{Worker}
use Rattle.mp_machine.specs.Steps.{KindFits, MaySendControl, MailAllows, CanStep}
use Rattle.mp_machine.specs.Promises.{InEveryRun}
use Rattle.mp_player_laws.specs.Decisions.{controls_to_send, packets_to_send, rows_to_send}
use Rattle.mp_player_laws.specs.Numbers.{Numbers, numbers_of, StandsAt}
use Rattle.mp_player_laws.specs.Counted.{IsGivenWithin}

-- what a worker does with its steps of a kind, in order; nothing, where the kind goes along no list
abbrev pub to_do : Outline → ℕ → Kind → List Name
to_do o w Ingest = share o w
to_do o w SendControl = controls_to_send o w
to_do o w (Extract j) = packets_to_send o w j
to_do o w (Settle j) = control_times o j
to_do o w (Apply j) = owned_groups o w j
to_do o w SendRow = rows_to_send o w
to_do o w Write = answer_times o
to_do o w _ = []

-- the steps of the kind go along a list
abbrev pub goes_along : Kind → Bool
goes_along (Route j) = false
goes_along (Receive v) = false
goes_along Exchange = false
goes_along _ = true

-- how many of the list of this kind are done
abbrev pub number_at : Numbers → Kind → ℕ
number_at n Ingest = n.ingested
number_at n SendControl = n.controls
number_at n (Extract j) = n.packets j
number_at n (Settle j) = n.times j
number_at n (Apply j) = n.groups j
number_at n SendRow = n.rows
number_at n Write = n.written
number_at n _ = 0

-- what the worker has seen, and has done of other lists, lets it make the step with this name: an answer row needs its group applied, and a time is settled before packets of later times
abbrev pub HasSeenEnough : Outline → ℕ → Worker → Kind → Name → Type 0
HasSeenEnough o w worker SendControl x = MaySendControl o worker x
HasSeenEnough o w worker (Extract j) x = HasPassed (worker.seen CtlMail) (time_of o x) × HasReached (worker.seen (Host j)) (time_of o x)
HasSeenEnough o w worker (Settle j) x =
    HasPassed (worker.seen CtlMail) (time_of o x) × ((y : Name) → StandsAt (packets_to_send o w j) ((numbers_of worker.log).packets j) y → time_of o x < time_of o y)
HasSeenEnough o w worker (Apply j) x = HasPassed (worker.seen (Mail j)) (time_of o x) × HasPassed (worker.seen (State j)) (time_of o x)
HasSeenEnough o w worker SendRow x = IsGivenWithin o w ((numbers_of worker.log).groups (o.stages - 1)) x
HasSeenEnough o w worker Write x = (w ≡ 0) × HasPassed (worker.seen OutMail) (time_of o x)
HasSeenEnough o w worker _ x = Unit {0}

abbrev pub ListsDecide : Type 0
ListsDecide =
    InEveryRun (λ o depth world.
    (w : ℕ) (kind : Kind) (x : Name)
    → w < o.workers
    → goes_along kind ≡ true
    → let worker = world.worker w in
    CanStep o depth world w kind x ↔ (KindFits o kind × StandsAt (to_do o w kind) (number_at (numbers_of worker.log) kind) x × HasSeenEnough o w worker kind x × MailAllows o depth world.mailbox w kind x))

-- a control record waits until all hosts have passed this time; for nothing, where there is none
abbrev pub IsPaceOf : Outline → Name → Option ℕ → Type 0
IsPaceOf o x None = (worker : Worker) → MaySendControl o worker x
IsPaceOf o x (Some t) = (worker : Worker) → MaySendControl o worker x ↔ ((j : ℕ) → j < o.stages → HasPassed (worker.seen (Host j)) t)
