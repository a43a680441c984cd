-- That a step changes its worker's log.
use Rattle.std.specs.Prelude.{◌≡◌, ℕ}
use Rattle.mp_names.specs.declared.names.Name.{Name}
use Rattle.mp_names.specs.declared.kinds.Kind.{Kind}
use Rattle.mp_machine.specs.Steps.{CanStep, logged, names_of}
use Rattle.mp_machine.specs.Promises.{InEveryRun}

-- after a step the log isn't the posted one, whatever it was before
abbrev pub StepsChangeLogs : Type 0
StepsChangeLogs =
    InEveryRun (λ o depth world.
    (w : ℕ) (kind : Kind) (x : Name)
    → CanStep o depth world w kind x
    → logged kind (world.worker w).log (names_of o world w kind x) ≡ (world.worker w).posted
    → ⊥)
