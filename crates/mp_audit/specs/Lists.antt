-- A journal as lists, and what is left of it.
use Rattle.std.specs.Prelude.{◌≡◌, ℕ, ◌<◌, List, [], Option, Some, slice_index_or, slice_set}
use Rattle.mp_names.specs.declared.kinds.Kept.{Kept}
use Rattle.mp_machine.specs.Steps.{rest_of}
use Rattle.mp_journal_laws.specs.Journals.{Journal, next_version}

-- the steps of a worker; none, where there is no list for it
abbrev pub list_of : List (List Kept) → Journal
list_of lists w = slice_index_or lists w []

-- the lists once the worker's next step is taken
abbrev pub one_taken : List (List Kept) → ℕ → List (List Kept)
one_taken lists w = slice_set lists w (rest_of (list_of lists w))

-- the version of the next exchange, if there is one, is later than this
abbrev pub IsLater : Option ℕ → ℕ → Type 0
IsLater next version = (later : ℕ) → next ≡ Some later → version < later

-- so is that of each worker but this one
abbrev pub IsAlone : Journal → ℕ → ℕ → Type 0
IsAlone left w version = (v : ℕ) → (v ≡ w → ⊥) → IsLater (next_version (left v)) version
