-- What a post stands for before and after a call, on the edge of the call and on the others.
-- `stands from to pushed popped`: from a worker to a worker these names were pushed with Ok, and these were popped.
use Rattle.std.specs.Prelude.{◌≡◌, ◌≢◌, ◌⊎◌, ℕ, List, [], ◌∷◌, ◌++◌}
use Rattle.mp_mailbox.specs.Names.{Distinct}

module _ {N : Type 0} (denotes : ℕ → ℕ → List N → List N → Type 0) where
  -- it stands for some lists on this edge
  abbrev pub Denotes : ℕ → ℕ → Type 0
  Denotes from to = (pushed : List N) × (popped : List N) × denotes from to pushed popped

  -- these names can be pushed on this edge: none of them was pushed there before
  abbrev pub IsFresh : ℕ → ℕ → List N → Type 0
  IsFresh from to names = (pushed : List N) × (popped : List N) × denotes from to pushed popped × Distinct (pushed ++ names)

  -- none of these names was popped on this edge before
  abbrev pub PopsNew : ℕ → ℕ → List N → Type 0
  PopsNew from to names = (pushed popped : List N) → denotes from to pushed popped → Distinct (popped ++ names)

module _ {N : Type 0} (old new : ℕ → ℕ → List N → List N → Type 0) where
  -- these names were pushed on this edge
  abbrev pub AddsPushed : ℕ → ℕ → List N → Type 0
  AddsPushed from to names = (pushed popped : List N) → old from to pushed popped → Distinct (pushed ++ names) → new from to (pushed ++ names) popped

  -- these names were popped on this edge
  abbrev pub AddsPopped : ℕ → ℕ → List N → Type 0
  AddsPopped from to names = (pushed popped : List N) → old from to pushed popped → new from to pushed (popped ++ names)

  -- nothing was pushed or popped on this edge
  abbrev pub KeepsEdge : ℕ → ℕ → Type 0
  KeepsEdge from to = (pushed popped : List N) → old from to pushed popped → new from to pushed popped

  -- nothing was pushed or popped on any edge but this one
  abbrev pub KeepsOthers : ℕ → ℕ → Type 0
  KeepsOthers from to = (other_from other_to : ℕ) → (other_from ≢ from) ⊎ (other_to ≢ to) → KeepsEdge other_from other_to

-- `waits from to messages`: from a worker to a worker these messages wait, the oldest first, each with its names
module _ {N : Type 0} (old new : ℕ → ℕ → List (List N) → Type 0) where
  -- a message with these names waits last on this edge
  abbrev pub AddsLast : ℕ → ℕ → List N → Type 0
  AddsLast from to names = (messages : List (List N)) → old from to messages → new from to (messages ++ names ∷ [])

  -- the message that waited first on this edge has these names, and is gone
  abbrev pub TakesFirst : ℕ → ℕ → List N → Type 0
  TakesFirst from to names = (messages : List (List N)) → old from to messages → (rest : List (List N)) × (messages ≡ names ∷ rest) × new from to rest

  -- the same messages wait on this edge
  abbrev pub KeepsWaiting : ℕ → ℕ → Type 0
  KeepsWaiting from to = (messages : List (List N)) → old from to messages → new from to messages

  -- the same messages wait on each edge but this one
  abbrev pub KeepsOthersWaiting : ℕ → ℕ → Type 0
  KeepsOthersWaiting from to = (other_from other_to : ℕ) → (other_from ≢ from) ⊎ (other_to ≢ to) → KeepsWaiting other_from other_to

-- What a post is to its workers, which no call changes: between how many it is, how deep each queue is, and whose ends are here
module _ {P : Type 0} (workers depth : P → ℕ) (serves : P → ℕ → Type 0) where
  pub record KeepsEnds (old new : P) : Type 0 where
    pub same_workers : workers new ≡ workers old
    pub same_depth : depth new ≡ depth old
    pub same_ends : (worker : ℕ) → serves old worker → serves new worker
