-- How a search goes on, and what it comes to.
use Rattle.std.specs.Prelude.{◌≡◌, ℕ, List, length}
use Rattle.mp_names.specs.Outlines.{Outline}
use Rattle.mp_machine.specs.Worlds.{World}
use Rattle.mp_names.specs.declared.kinds.Kept.{Kept}
use Rattle.mp_journal_laws.specs.Journals.{Journal}
use Rattle.mp_journal_laws.specs.Merges.{IsLegalMerge, end_of}
use Rattle.mp_journal_laws.specs.Searches.{MayBeTaken, MayBeTakenInTurn, left_after, IsStuck}

-- Steps that may be taken in turn lead from a world with these steps left to another, with those left; they are so many
pub record Leads (o : Outline) (depth : ℕ) (world : World) (left : Journal) (after : World) (still : Journal) (n : ℕ) : Type 0 where
  pub taken : List (ℕ × Kept)
  pub may : MayBeTakenInTurn o depth world left taken
  pub world_is : end_of o depth world taken ≡ after
  pub left_is : left_after left taken ≡ still
  pub many : length taken ≡ n

-- the journal has a legal merge of so many steps
abbrev pub HasLegalMerge : Outline → ℕ → Journal → ℕ → Type 0
HasLegalMerge o depth journal n = (steps : List (ℕ × Kept)) × IsLegalMerge o depth journal steps × (length steps ≡ n)

-- it has none
abbrev pub HasNone : Outline → ℕ → Journal → Type 0
HasNone o depth journal = (steps : List (ℕ × Kept)) → IsLegalMerge o depth journal steps → ⊥

-- From each world that was shown the worker's steps that may be taken lead to one that is shown now, by so many
abbrev pub Goes : Outline → ℕ → (World → Type 0) → Journal → (World → Type 0) → Journal → ℕ → Type 0
Goes o depth old left new still n = (world : World) → old world → (after : World) × Leads o depth world left after still n × new after

-- and where there were none, no step may be taken now
abbrev pub Passes : Outline → ℕ → (World → Type 0) → Journal → (World → Type 0) → Journal → ℕ → Type 0
Passes o depth old left new still n = (world : World) → old world → (after : World) × Leads o depth world left after still n × new after × (n ≡ 0 → IsStuck o depth after still)

-- no step of the worker may be taken, and each world that was shown is shown still
abbrev pub Waits : Outline → ℕ → (World → Type 0) → Journal → (World → Type 0) → ℕ → Type 0
Waits o depth old left new w = (world : World) → old world → ((step : Kept) → MayBeTaken o depth world left w step → ⊥) × new world

-- where there were none, no step of this worker may be taken now
abbrev pub Tries : Outline → ℕ → (World → Type 0) → Journal → (World → Type 0) → Journal → ℕ → ℕ → Type 0
Tries o depth old left new still w n =
    (world : World)
    → old world
    → (after : World) × Leads o depth world left after still n × new after × (n ≡ 0 → (after ≡ world) × ((step : Kept) → MayBeTaken o depth after still w step → ⊥))
