-- What holds of merges and of the search for them: for each outline, each depth of the mailboxes and each journal.
use Rattle.std.specs.Prelude.{◌≡◌, ℕ, suc, ◌+◌, ◌⊎◌, List, ◌∷◌, length}
use Rattle.mp_names.specs.Outlines.{Outline}
use Rattle.mp_machine.specs.Worlds.{World, start_of_machine}
use Rattle.mp_machine.specs.Runs.{step_of_machine, IsFinished}
use Rattle.mp_names.specs.declared.kinds.Kept.{Kept}
use Rattle.mp_journal_laws.specs.Journals.{Journal}
use Rattle.mp_journal_laws.specs.Merges.{IsMerge, IsLegalMerge, end_of}
use Rattle.mp_journal_laws.specs.Searches.{MayBeTaken, left_behind, MayBeTakenInTurn, left_after, IsStuck, AllAreTaken}

-- One step

-- A merge of what is left after a step: with the step before it, it is as long as the one that was, and ends in the same world
pub record GoesOn (o : Outline) (depth : ℕ) (world : World) (left : Journal) (steps : List (ℕ × Kept)) (after : World) (still : Journal) (more : List (ℕ × Kept)) : Type 0 where
  pub merge : IsMerge o depth after still more
  pub same_end : end_of o depth after more ≡ end_of o depth world steps
  pub one_less : length steps ≡ suc (length more)

-- whichever step is taken of those that may be, where there was a merge there is one of what is left
abbrev pub AnyStepServes : Type 0
AnyStepServes =
    (o : Outline) (depth : ℕ) (world : World) (left : Journal) (steps : List (ℕ × Kept)) (w : ℕ) (step : Kept)
    → IsMerge o depth world left steps
    → MayBeTaken o depth world left w step
    → (more : List (ℕ × Kept)) × GoesOn o depth world left steps (step_of_machine o depth world w step.kind) (left_behind left w) more

-- the first step of a merge may be taken
abbrev pub FirstStepMayBeTaken : Type 0
FirstStepMayBeTaken =
    (o : Outline) (depth : ℕ) (world : World) (left : Journal) (first : ℕ × Kept) (steps : List (ℕ × Kept))
    → IsMerge o depth world left (first ∷ steps)
    → MayBeTaken o depth world left first.0 first.1

-- so where there is a merge, and steps are left, some step may be taken
abbrev pub SomeStepMayBeTaken : Type 0
SomeStepMayBeTaken =
    (o : Outline) (depth : ℕ) (world : World) (left : Journal) (steps : List (ℕ × Kept))
    → IsMerge o depth world left steps
    → AllAreTaken left ⊎ ((w : ℕ) × (step : Kept) × MayBeTaken o depth world left w step)

-- two merges of the same steps from the same world end in one world, and are as long
abbrev pub MergesEndAlike : Type 0
MergesEndAlike =
    (o : Outline) (depth : ℕ) (world : World) (left : Journal) (these those : List (ℕ × Kept))
    → IsMerge o depth world left these
    → IsMerge o depth world left those
    → (end_of o depth world these ≡ end_of o depth world those) × (length these ≡ length those)

-- A search

-- Every search from the machine's start: the steps that it took, each of which might be taken
abbrev pub InEverySearch : (Outline → ℕ → Journal → List (ℕ × Kept) → Type 0) → Type 0
InEverySearch P =
    (o : Outline) (depth : ℕ) (journal : Journal) (taken : List (ℕ × Kept))
    → MayBeTakenInTurn o depth (start_of_machine o) journal taken
    → P o depth journal taken

-- where it has taken all, what it took is a merge
abbrev pub FoundMergesAreLegal : Type 0
FoundMergesAreLegal = InEverySearch (λ o depth journal taken. AllAreTaken (left_after journal taken) → IsMerge o depth (start_of_machine o) journal taken)

-- and where all is over then, it is a legal one
abbrev pub FoundRunsAreLegal : Type 0
FoundRunsAreLegal = InEverySearch (λ o depth journal taken. AllAreTaken (left_after journal taken) → IsFinished o (end_of o depth (start_of_machine o) taken) → IsLegalMerge o depth journal taken)

-- where the journal has a merge, so has what is left, with the same end
abbrev pub SearchesGoOn : Type 0
SearchesGoOn =
    InEverySearch (λ o depth journal taken.
    (steps : List (ℕ × Kept))
    → IsMerge o depth (start_of_machine o) journal steps
    → (more : List (ℕ × Kept))
    × IsMerge o depth (end_of o depth (start_of_machine o) taken) (left_after journal taken) more
    × (end_of o depth (end_of o depth (start_of_machine o) taken) more ≡ end_of o depth (start_of_machine o) steps)
    × (length steps ≡ length taken + length more))

-- where the search is stuck before all is taken, or with all taken before all is over, the journal has no legal merge
abbrev pub NoRunIsLeft : Type 0
NoRunIsLeft =
    InEverySearch (λ o depth journal taken.
    IsStuck o depth (end_of o depth (start_of_machine o) taken) (left_after journal taken)
    → (AllAreTaken (left_after journal taken) → IsFinished o (end_of o depth (start_of_machine o) taken) → ⊥)
    → (steps : List (ℕ × Kept))
    → IsLegalMerge o depth journal steps
    → ⊥)
