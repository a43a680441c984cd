-- That a step is made, by its condition.
use Rattle.std.specs.Prelude.{◌≡◌, ◌↔◌, ◌⊎◌, ℕ}
use Rattle.mp_names.specs.declared.names.Name.{Name}
use Rattle.mp_names.specs.declared.kinds.Kept.{Kept}
use Rattle.mp_names.specs.declared.kinds.Kind.{Kind}
use Rattle.mp_names.specs.Outlines.{Outline, OutlineIsSound}
use Rattle.mp_machine.specs.Worlds.{World}
use Rattle.mp_machine.specs.Steps.{CanStep, CanExchange, stepped, version_after, exchanged}
use Rattle.mp_machine.specs.Runs.{step_of_machine}
use Rattle.mp_journal_laws.specs.Merges.{IsMade}

-- a kept step is made exactly where its condition is true with some name, or it is an exchange whose condition is true and that gives the version
abbrev pub ConditionsMakeSteps : Type 0
ConditionsMakeSteps =
    (o : Outline) (depth : ℕ) (world : World) (w : ℕ) (step : Kept)
    → OutlineIsSound o
    → IsMade o depth world w step ↔ (((x : Name) × CanStep o depth world w step.kind x) ⊎ (CanExchange o world w step.kind × (step.version ≡ version_after world w)))

-- and then it leads to the world after the names, or after the exchange
abbrev pub ConditionsLead : Type 0
ConditionsLead =
    (o : Outline) (depth : ℕ) (world : World) (w : ℕ) (kind : Kind)
    → OutlineIsSound o
    → ((x : Name) → CanStep o depth world w kind x → step_of_machine o depth world w kind ≡ stepped o world w kind x) × (CanExchange o world w kind → step_of_machine o depth world w kind ≡ exchanged o world w)
