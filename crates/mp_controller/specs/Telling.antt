-- What a controller tells of the machine: which control record worker 0 sends next, and whether it may.
use Rattle.std.specs.Prelude.{◌≡◌, ◌↔◌, ℕ, ◌<◌, length, Option, Some}
use Rattle.mp_names.specs.declared.kinds.Kind.TheVariants.{SendControl}
use Rattle.mp_names.specs.declared.names.Name.{Name}
use Rattle.mp_names.specs.declared.names.Name.TheVariants.{Ctrl}
use Rattle.mp_names.specs.Logs.{Log}
use Rattle.mp_names.specs.Names.{has}
use Rattle.mp_names.specs.Outlines.{Outline}
use Rattle.mp_machine.specs.Steps.{IsNext, IsReady}
use Rattle.mp_machine.specs.Worlds.{Worker}
use Rattle.mp_stamps.specs.declared.seen.Seen.{Seen}
use Rattle.mp_stamps.specs.Seen.{seen_at}
use Rattle.mp_controller.specs.Cursors.{is_before}
use Rattle.mp_controller.specs.Controlling.{Controlling, IsSendingOrder, index_at}

-- It is the controller of worker 0 with this log: its control records are the outline's, in their order; those before its cursor are sent, and no others
pub record IsControllerOf (o : Outline) (log : Log) (c : Controlling) : Type 0 where
  pub controls : c.controls ≡ o.controls
  pub order : IsSendingOrder o.paced o.controls c.order
  pub paced : c.paced ≡ o.paced
  pub workers : c.shape.workers ≡ o.workers
  pub stages : c.shape.stages ≡ o.stages
  pub receiver : c.next.receiver < o.workers
  pub sent : (p v : ℕ) → p < length c.order → v < o.workers → has log.sent (Ctrl (index_at c.order p) v) ≡ is_before c.next p v

-- worker 0 of the machine, which has seen this, may send a control record exactly where it is the one that is told
abbrev pub TellsMachine : Controlling → Seen → Option Name → Type 0
TellsMachine c seen told =
    (o : Outline) (worker : Worker)
    → IsControllerOf o worker.log c
    → worker.seen ≡ seen_at seen
    → (x : Name) → ((told ≡ Some x) ↔ (IsNext o 0 worker SendControl x × IsReady o 0 worker SendControl x))
