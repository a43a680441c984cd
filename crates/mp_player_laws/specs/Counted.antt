-- What decides the steps of a run, in numbers.
use Rattle.std.specs.Prelude.{◌≡◌, ◌↔◌, ℕ, ◌-◌, ◌<◌, take}
use Rattle.mp_names.specs.declared.names.Name.{Name}
use Rattle.mp_names.specs.declared.names.Name.TheVariants.{Row, Group}
use Rattle.mp_names.specs.declared.locations.Loc.TheVariants.{CtlMail, Mail, State, Host, OutMail}
use Rattle.mp_names.specs.declared.kinds.Kind.TheVariants.{Ingest, SendControl, Extract, Settle, Apply, SendRow, Write}
use Rattle.mp_names.specs.Names.{In}
use Rattle.mp_names.specs.Outlines.{Outline, time_of, share, control_times, answer_times}
use Rattle.mp_names.specs.Logs.{owned_groups}
use Rattle.mp_names.specs.Frontiers.{HasPassed, HasReached}
use Rattle.mp_machine.specs.Worlds.{World}
use Rattle.mp_machine.specs.Steps.{MaySendControl, HasRoom, CanStep}
use Rattle.mp_machine.specs.Promises.{InEveryRun}
use Rattle.mp_player_laws.specs.Decisions.{controls_to_send, packets_to_send, rows_to_send}
use Rattle.mp_player_laws.specs.Numbers.{Numbers, StandsAt, numbers_of}

-- the group that gives the answer row is one of the first so many that the worker owns
abbrev pub IsGivenWithin : Outline → ℕ → ℕ → Name → Type 0
IsGivenWithin o w n (Row t g) = In (Group (o.stages - 1) t g.0) (take n (owned_groups o w (o.stages - 1)))
IsGivenWithin o w n _ = ⊥

module _ (o : Outline) (depth : ℕ) (world : World) (w : ℕ) where
  abbrev pub numbers : Numbers
  numbers = numbers_of (world.worker w).log

  abbrev pub IngestIsCounted : Name → Type 0
  IngestIsCounted x = CanStep o depth world w Ingest x ↔ StandsAt (share o w) numbers.ingested x

  abbrev pub SendControlIsCounted : Name → Type 0
  SendControlIsCounted x =
      CanStep o depth world w SendControl x ↔ (StandsAt (controls_to_send o w) numbers.controls x × MaySendControl o (world.worker w) x × HasRoom o depth world.mailbox w x)

  abbrev pub ExtractIsCounted : ℕ → Name → Type 0
  ExtractIsCounted j x =
      let worker = world.worker w in
      CanStep o depth world w (Extract j) x ↔ ((j < o.stages) × StandsAt (packets_to_send o w j) (numbers.packets j) x × HasPassed (worker.seen CtlMail) (time_of o x) × HasReached (worker.seen (Host j)) (time_of o x) × HasRoom o depth world.mailbox w x)

  -- a time may be settled where the next packet of the stage, if there is one, is of a later time
  abbrev pub SettleIsCounted : ℕ → Name → Type 0
  SettleIsCounted j x =
      CanStep o depth world w (Settle j) x ↔ ((j < o.stages) × StandsAt (control_times o j) (numbers.times j) x × HasPassed ((world.worker w).seen CtlMail) (time_of o x) × ((y : Name) → StandsAt (packets_to_send o w j) (numbers.packets j) y → time_of o x < time_of o y))

  abbrev pub ApplyIsCounted : ℕ → Name → Type 0
  ApplyIsCounted j x =
      let worker = world.worker w in
      CanStep o depth world w (Apply j) x ↔ ((j < o.stages) × StandsAt (owned_groups o w j) (numbers.groups j) x × HasPassed (worker.seen (Mail j)) (time_of o x) × HasPassed (worker.seen (State j)) (time_of o x))

  abbrev pub SendRowIsCounted : Name → Type 0
  SendRowIsCounted x =
      CanStep o depth world w SendRow x ↔ (StandsAt (rows_to_send o w) numbers.rows x × IsGivenWithin o w (numbers.groups (o.stages - 1)) x × HasRoom o depth world.mailbox w x)

  abbrev pub WriteIsCounted : Name → Type 0
  WriteIsCounted x =
      CanStep o depth world w Write x ↔ ((w ≡ 0) × StandsAt (answer_times o) numbers.written x × HasPassed ((world.worker w).seen OutMail) (time_of o x))

-- Of every worker of every world that a run reaches
pub record StepsAreCounted (o : Outline) (depth : ℕ) (world : World) (w : ℕ) : Type 0 where
  pub ingest : (x : Name) → IngestIsCounted o depth world w x
  pub send_control : (x : Name) → SendControlIsCounted o depth world w x
  pub extract : (j : ℕ) (x : Name) → ExtractIsCounted o depth world w j x
  pub settle : (j : ℕ) (x : Name) → SettleIsCounted o depth world w j x
  pub apply : (j : ℕ) (x : Name) → ApplyIsCounted o depth world w j x
  pub send_row : (x : Name) → SendRowIsCounted o depth world w x
  pub write : (x : Name) → WriteIsCounted o depth world w x

abbrev pub NumbersDecide : Type 0
NumbersDecide = InEveryRun (λ o depth world. (w : ℕ) → w < o.workers → StepsAreCounted o depth world w)
