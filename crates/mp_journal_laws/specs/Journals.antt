-- Journals: what workers kept of their steps.
use Rattle.std.specs.Prelude.{ℕ, Bool, true, false, cond, ◌==◌, List, [], ◌∷◌, filter, map, Option, None, Some}
use Rattle.mp_names.specs.declared.kinds.Kept.{Kept}
use Rattle.mp_names.specs.declared.kinds.Kind.{Kind}
use Rattle.mp_names.specs.declared.kinds.Kind.TheVariants.{Exchange}

-- by worker the steps that it kept, in its order
abbrev pub Journal : Type 0
Journal = ℕ → List Kept

-- the steps of one worker in a list of workers and steps
abbrev pub steps_of : ℕ → List (ℕ × Kept) → List Kept
steps_of w steps = map (λ (s : ℕ × Kept). s.1) (filter (λ (s : ℕ × Kept). s.0 == w) steps)

-- the list as the machine runs it
abbrev pub places_of : List (ℕ × Kept) → List (ℕ × Kind)
places_of steps = map (λ (s : ℕ × Kept). (s.0, s.1.kind)) steps

abbrev pub is_exchange : Kind → Bool
is_exchange Exchange = true
is_exchange _ = false

-- the version of the first exchange among the steps
abbrev pub next_version : List Kept → Option ℕ
next_version [] = None
next_version (s ∷ steps) = cond (is_exchange s.kind) (Some s.version) (next_version steps)
