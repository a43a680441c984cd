-- What a line says.
use Rattle.std.specs.Prelude.{ℕ, List}

-- of a line's fields: the checks that they fail, in order, by what the lines before it say; and what all say with this line, where it fails none
pub record LineRules (State Reason : Type 0) : Type 0 where
  pub failures : State → List (List ℕ) → List Reason
  pub after : State → List (List ℕ) → State
