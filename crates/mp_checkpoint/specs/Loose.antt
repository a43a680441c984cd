-- Lines that are read as what they say.
use Rattle.std.specs.Prelude.{◌≡◌, ◌⊎◌, ◌<◌, ◌^◌, ℕ, true, List, [], ◌∷◌}
use Rattle.std.proofs.Common.{inl, inr}
use Rattle.mp_checkpoint_laws.specs.Files.{Format, SavedLine}

module _ {Cell : Type 0} (f : Format Cell) (until : ℕ) where
  -- the numbers of a line fit their types, and its cell may be saved at this time
  abbrev pub IsReadable : ℕ → ℕ → Cell ⊎ ℕ → Type 0
  IsReadable j k (inl c) = (j < 2 ^ 32) × (k < 2 ^ 64) × (f.allows j k until c ≡ true)
  IsReadable j k (inr u) = (j < 2 ^ 32) × (k < 2 ^ 64) × (u < 2 ^ 64)

  abbrev pub AreReadable : List (SavedLine Cell) → Type 0
  AreReadable [] = Unit {0}
  AreReadable (l ∷ ls) = IsReadable l.stage l.key l.holds × AreReadable ls
