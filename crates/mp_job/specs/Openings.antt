-- The cells and the wakes that a bin begins with.
use Rattle.std.specs.Prelude.{◌≡◌, ◌≢◌, ◌↔◌, ℕ, List, All, AllPairs, Contains}
use Rattle.mp_opening.specs.Below.{bin_of_key}
use Rattle.mp_model.specs.Facts.{QueryFacts}
use Rattle.mp_opening.specs.Openings.{ComesEarlier}

module _ {Cell : Type 0} where
  -- With so many bins these are, each with its key, the cells that a bin of a stage begins with: every other key of the bin begins with a fresh one
  pub record AreOpeningCells (q : QueryFacts Cell) (bins j b : ℕ) (cells : List (ℕ × Cell)) : Type 0 where
    pub each : All (λ p. (bin_of_key p.0 bins ≡ b) × (p.1 ≡ q.opening j p.0)) cells
    pub others : (k : ℕ) → bin_of_key k bins ≡ b → All (λ p. p.0 ≢ k) cells → q.opening j k ≡ q.fresh j
    pub once : AllPairs (λ p r. p.0 ≢ r.0) cells

  -- these are, each a time and a key, the wakes that it begins with, by time and then by key
  pub record AreOpeningWakes (q : QueryFacts Cell) (bins j b : ℕ) (wakes : List (ℕ × ℕ)) : Type 0 where
    pub are : (u k : ℕ) → (Contains wakes (u, k) ↔ (Contains (q.waking j) (u, k) × (bin_of_key k bins ≡ b)))
    pub ascend : AllPairs ComesEarlier wakes
