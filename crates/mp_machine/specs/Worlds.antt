-- The state of the machine: what each worker holds and has seen, the board's version, and the mailboxes between workers.
use Rattle.std.specs.Prelude.{ℕ, cond, ◌==◌, List, []}
use Rattle.mp_names.specs.declared.names.Name.{Name}
use Rattle.mp_names.specs.declared.locations.Loc.{Loc}
use Rattle.mp_names.specs.declared.locations.Frontier.{Frontier}
use Rattle.mp_names.specs.Outlines.{Outline}
use Rattle.mp_names.specs.Logs.{Log, empty_log}
use Rattle.mp_names.specs.Frontiers.{frontier_of}

-- A worker: its log, what it last posted of it, and the frontiers and the version of the board that it last saw
pub record Worker : Type 0 where
  pub log : Log
  pub posted : Log
  pub seen : Loc → Frontier
  pub version : ℕ

-- The workers by number; how often a changed log was posted on the board; and from one worker to another the messages sent and not yet taken, the oldest first, each as the names that travel in it
pub record World : Type 0 where
  pub worker : ℕ → Worker
  pub version : ℕ
  pub mailbox : ℕ → ℕ → List (List Name)

abbrev pub logs_of : World → ℕ → Log
logs_of world w = (world.worker w).log

-- what stands on the board
abbrev pub posted_logs : World → ℕ → Log
posted_logs world w = (world.worker w).posted

-- At the start all logs are empty, posted and seen, and all mailboxes are empty
abbrev pub start_of_machine : Outline → World
start_of_machine o = record { worker = λ w. record { log = empty_log; posted = empty_log; seen = frontier_of o (λ v. empty_log); version = 0 }; version = 0; mailbox = λ v w. [] }

-- the function with another value at one place
abbrev pub put : {X : Type 0} → ℕ → X → (ℕ → X) → ℕ → X
put w x f v = cond (v == w) x (f v)
