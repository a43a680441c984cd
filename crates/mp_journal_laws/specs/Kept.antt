-- What workers that keep their steps have kept after a list of steps: a step where it was made, and of an exchange the version that it saw.
use Rattle.std.specs.Prelude.{ℕ, List, [], ◌∷◌, ◌++◌, map}
use Rattle.mp_names.specs.Outlines.{Outline}
use Rattle.mp_names.specs.declared.kinds.Kept.{Kept}
use Rattle.mp_names.specs.declared.kinds.Kind.{Kind}
use Rattle.mp_machine.specs.Runs.{Turn, Did, Saw, NotNow, turn_of_machine, step_of_machine}
use Rattle.mp_machine.specs.Worlds.{World}
use Rattle.mp_journal_laws.specs.Journals.{steps_of}

-- what is kept of a step of this turn
abbrev pub kept_at : Kind → Turn → List Kept
kept_at kind (Did x n) = record { kind = kind; version = 0 } ∷ []
kept_at kind (Saw version) = record { kind = kind; version = version } ∷ []
kept_at kind NotNow = []

-- what is kept of a list of steps from a world, each with its worker, in the order of the list
abbrev pub all_kept : Outline → ℕ → World → List (ℕ × Kind) → List (ℕ × Kept)
all_kept o depth world [] = []
all_kept o depth world (s ∷ steps) =
    map (λ (k : Kept). (s.0, k)) (kept_at s.1 (turn_of_machine o depth world s.0 s.1)) ++ all_kept o depth (step_of_machine o depth world s.0 s.1) steps

-- and by this worker
abbrev pub kept_of : Outline → ℕ → World → List (ℕ × Kind) → ℕ → List Kept
kept_of o depth world steps w = steps_of w (all_kept o depth world steps)
