-- A step along a list, in a run.
use Rattle.std.specs.Prelude.{◌≡◌, ℕ, List}
use Rattle.mp_names.specs.declared.names.Name.{Name}
use Rattle.mp_names.specs.declared.kinds.Kind.{Kind}
use Rattle.mp_names.specs.Outlines.{Outline, OutlineIsSound}
use Rattle.mp_machine.specs.Worlds.{World}
use Rattle.mp_machine.specs.Steps.{CanStep, stepped}
use Rattle.mp_machine.specs.Runs.{run_of_machine}
use Rattle.mp_standing.specs.declared.standing.Standing.{Standing}
use Rattle.mp_standing.specs.Standings.{Stands}

-- a run of a sound outline reaches the world
pub record IsReached (o : Outline) (depth : ℕ) (world : World) : Type 0 where
  pub sound : OutlineIsSound o
  pub steps : List (ℕ × Kind)
  pub run : world ≡ run_of_machine o depth steps

-- where a worker of the world can make the step of this kind with this name, and the old standing stands for it, the new one stands for it after the step
abbrev pub Advances : Outline → ℕ → Kind → Name → Standing → Standing → Type 0
Advances o w kind x old new =
    (depth : ℕ) (world : World)
    → IsReached o depth world
    → CanStep o depth world w kind x
    → Stands o w old (world.worker w)
    → Stands o w new ((stepped o world w kind x).worker w)
