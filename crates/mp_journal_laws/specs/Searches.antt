-- The search for a merge: which steps it may take, and what it has done.
use Rattle.std.specs.Prelude.{◌≡◌, ℕ, ◌<◌, List, [], ◌∷◌, Some}
use Rattle.mp_names.specs.Outlines.{Outline}
use Rattle.mp_names.specs.declared.kinds.Kind.TheVariants.{Exchange}
use Rattle.mp_machine.specs.Worlds.{World, put}
use Rattle.mp_machine.specs.Steps.{rest_of}
use Rattle.mp_machine.specs.Runs.{step_of_machine}
use Rattle.mp_names.specs.declared.kinds.Kept.{Kept}
use Rattle.mp_journal_laws.specs.Journals.{Journal, next_version}
use Rattle.mp_journal_laws.specs.Merges.{IsMade}

-- The worker's step may be taken: it is the worker's next, it is made, and where it is an exchange that changes the posted log, each other worker's next exchange carries a later version than the board's before it
pub record MayBeTaken (o : Outline) (depth : ℕ) (world : World) (left : Journal) (w : ℕ) (step : Kept) : Type 0 where
  pub next : left w ≡ step ∷ rest_of (left w)
  pub made : IsMade o depth world w step
  pub alone : step.kind ≡ Exchange → ((world.worker w).log ≡ (world.worker w).posted → ⊥) → (v version : ℕ) → (v ≡ w → ⊥) → next_version (left v) ≡ Some version → world.version < version

-- what is left once the worker's next step is taken
abbrev pub left_behind : Journal → ℕ → Journal
left_behind left w = put w (rest_of (left w)) left

-- each of the steps may be taken once those before it are
abbrev pub MayBeTakenInTurn : Outline → ℕ → World → Journal → List (ℕ × Kept) → Type 0
MayBeTakenInTurn o depth world left [] = Unit {0}
MayBeTakenInTurn o depth world left (s ∷ taken) =
    MayBeTaken o depth world left s.0 s.1 × MayBeTakenInTurn o depth (step_of_machine o depth world s.0 s.1.kind) (left_behind left s.0) taken

-- what is left once all these are taken
abbrev pub left_after : Journal → List (ℕ × Kept) → Journal
left_after left [] = left
left_after left (s ∷ taken) = left_after (left_behind left s.0) taken

-- no step may be taken
abbrev pub IsStuck : Outline → ℕ → World → Journal → Type 0
IsStuck o depth world left = (w : ℕ) (step : Kept) → MayBeTaken o depth world left w step → ⊥

-- no step is left
abbrev pub AllAreTaken : Journal → Type 0
AllAreTaken left = (w : ℕ) → left w ≡ []
