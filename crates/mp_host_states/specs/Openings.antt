-- The cells that a bin begins with.
use Rattle.std.specs.Prelude.{◌≡◌, ◌≢◌, ◌⊎◌, ℕ, Contains, IsSome, List, Some, nat_eq}
use Rattle.std.specs.HashMap.{HashMap, get}

-- What the map has of keys are cells of theirs that aren't fresh, and of each key one, where there is one
pub record AreKept {Cell S : Type 0} (fresh : Cell) (cells : List (ℕ × Cell)) (kept : HashMap ℕ Cell S) : Type 0 where
  pub own : (k : ℕ) (c : Cell) → get nat_eq kept k ≡ Some c → Contains cells (k, c) × (c ≢ fresh)
  pub all : (k : ℕ) (c : Cell) → Contains cells (k, c) → (c ≡ fresh) ⊎ IsSome (get nat_eq kept k)
