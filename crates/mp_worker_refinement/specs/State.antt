-- What contracts see of a worker, and the steps that it can make.
use Rattle.std.specs.Prelude.{◌≡◌, ℕ, List, [], ◌∷◌, ◌++◌, Option, None, Some}
use Rattle.mp_names.specs.declared.kinds.Kept.{Kept}
use Rattle.mp_names.specs.declared.kinds.Kind.{Kind}
use Rattle.mp_names.specs.declared.names.Name.{Name}
use Rattle.mp_names.specs.Outlines.{Outline}
use Rattle.mp_names.specs.Logs.{Log}
use Rattle.mp_stamps.specs.declared.seen.Seen.{Seen}
use Rattle.mp_stamps.specs.Seen.{seen_at}
use Rattle.mp_machine.specs.Steps.{AreNamesOf, IsNext, IsReady, KindFits, logged}
use Rattle.mp_machine.specs.Worlds.{Worker}

-- a worker's number, its log, the log that it posted last, which at first is the empty one, what it saw at its last exchange, and where it keeps its steps those that it made, in their order
pub record WorkerState : Type 0 where
  pub number : ℕ
  pub log : Log
  pub posted : Log
  pub seen : Seen
  pub steps : Option (List Kept)

-- the worker as the machine has it
abbrev pub as_machine : WorkerState → Worker
as_machine s = record { log = s.log; posted = s.posted; seen = seen_at s.seen; version = s.seen.version }

-- By its log and what it saw the worker can make the step of this kind with this name; whether a mailbox lets it is not asked
pub record CanMake (o : Outline) (kind : Kind) (s : WorkerState) (x : Name) : Type 0 where
  pub fits : KindFits o kind
  pub next : IsNext o s.number (as_machine s) kind x
  pub ready : IsReady o s.number (as_machine s) kind x

-- where steps are kept, one more of this kind and version; where none are, none
abbrev pub kept_with : Option (List Kept) → Kind → ℕ → Option (List Kept)
kept_with None kind version = None
kept_with (Some steps) kind version = Some (steps ++ record { kind = kind; version = version } ∷ [])

-- the worker with the names in the list that the kind fills, and the step kept where steps are
abbrev pub with_step : Kind → List Name → WorkerState → WorkerState
with_step kind xs s = record s { log = logged kind s.log xs; steps = kept_with s.steps kind 0 }

-- The worker could make the step with the first of the names, and has: its log has all of them, and nothing else of it changed but the steps that it keeps
pub record Makes (o : Outline) (kind : Kind) (old : WorkerState) (xs : List Name) (new : WorkerState) : Type 0 where
  pub first : Name
  pub can : CanMake o kind old first
  pub names : AreNamesOf o old.number old.log kind first xs
  pub after : new ≡ with_step kind xs old
