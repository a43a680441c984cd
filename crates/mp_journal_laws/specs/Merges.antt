-- Merges: the steps of all workers in one order, as a run of the machine.
use Rattle.std.specs.Prelude.{◌≡◌, ℕ, List, [], ◌∷◌}
use Rattle.mp_names.specs.Outlines.{Outline}
use Rattle.mp_machine.specs.Worlds.{World, start_of_machine}
use Rattle.mp_machine.specs.Runs.{Turn, Did, Saw, NotNow, turn_of_machine, step_of_machine, world_after, IsFinished}
use Rattle.mp_names.specs.declared.kinds.Kept.{Kept}
use Rattle.mp_journal_laws.specs.Journals.{Journal, steps_of, places_of}

-- the turn is that of the step: it was made, and an exchange saw the version that was kept
abbrev pub IsTurnOf : Kept → Turn → Type 0
IsTurnOf step (Did x n) = Unit {0}
IsTurnOf step (Saw version) = step.version ≡ version
IsTurnOf step NotNow = ⊥

-- the worker's step has a true condition, and as an exchange it gives its version
abbrev pub IsMade : Outline → ℕ → World → ℕ → Kept → Type 0
IsMade o depth world w step = IsTurnOf step (turn_of_machine o depth world w step.kind)

-- so has each of the steps, in the world where the ones before it lead
abbrev pub AreMade : Outline → ℕ → World → List (ℕ × Kept) → Type 0
AreMade o depth world [] = Unit {0}
AreMade o depth world (s ∷ steps) = IsMade o depth world s.0 s.1 × AreMade o depth (step_of_machine o depth world s.0 s.1.kind) steps

-- A merge of the workers' steps from a world: it has all of them, and each worker's in its order; and each is made
pub record IsMerge (o : Outline) (depth : ℕ) (world : World) (journal : Journal) (steps : List (ℕ × Kept)) : Type 0 where
  pub order : (w : ℕ) → steps_of w steps ≡ journal w
  pub made : AreMade o depth world steps

-- where the steps lead
abbrev pub end_of : Outline → ℕ → World → List (ℕ × Kept) → World
end_of o depth world steps = world_after o depth world (places_of steps)

-- A legal merge of a journal: it begins at the machine's start, and when it ends all is over
pub record IsLegalMerge (o : Outline) (depth : ℕ) (journal : Journal) (steps : List (ℕ × Kept)) : Type 0 where
  pub merge : IsMerge o depth (start_of_machine o) journal steps
  pub finished : IsFinished o (end_of o depth (start_of_machine o) steps)
