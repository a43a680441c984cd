-- Where every place is NotNow, all is over.
use Rattle.std.proofs.Common.{◌≡◌, ℕ, ◌<◌}
use Rattle.mp_names.specs.declared.names.Name.{Name}
use Rattle.mp_names.specs.declared.kinds.Kind.{Kind}
use Rattle.mp_names.specs.declared.kinds.Kind.TheVariants.{Exchange}
use Rattle.mp_names.specs.Outlines.{Outline, OutlineIsSound}
use Rattle.mp_machine.specs.Worlds.{World}
use Rattle.mp_machine.specs.Steps.{IsPlace, CanStep, CanExchange}
use Rattle.mp_machine.specs.Runs.{NotNow, turn_of_machine, IsFinished, WorkerIsFinished}
use Rattle.mp_machine.proofs.Turns.{not_now_to}
use Rattle.mp_machine.proofs.Worlds.{WorldIsRight}
use Rattle.mp_machine.proofs.Stuck.{finished, worker_finished}

module _ (o : Outline) (ok : OutlineIsSound o) (depth : ℕ) (deep : 0 < depth) (world : World) (right : WorldIsRight o depth world) (not_now : (w : ℕ) (kind : Kind) → IsPlace o w kind → turn_of_machine o depth world w kind ≡ NotNow) where
  still : (w : ℕ) (kind : Kind) (x : Name) → CanStep o depth world w kind x → ⊥
  unfolding turn_of_machine
  still w kind x can = (not_now_to o depth world w ok kind (not_now w kind can.0)).0 x can

  level : (w : ℕ) → CanExchange o world w Exchange → ⊥
  unfolding turn_of_machine
  level w can = (not_now_to o depth world w ok Exchange (not_now w Exchange (can.0, tt))).1 can

  pub all_over : IsFinished o world × ((w : ℕ) → w < o.workers → WorkerIsFinished o world w)
  all_over = (finished o ok depth deep world right still level, worker_finished o ok depth deep world right still level)
