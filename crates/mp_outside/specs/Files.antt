-- The files of a depot, where it tells them.
use Rattle.std.specs.Prelude.{ℕ, ◌≡◌, ◌≢◌, List, ◌++◌, Option, Some, None, IsSome, IsSomeAnd, option_map, option_and_then, bytes_eq, if◌then◌else◌}
use Rattle.std.specs.Option.{ForSome}

-- the bytes of each name that is there
abbrev pub Files : Type 0
Files = List ℕ → Option (List ℕ)

-- the bytes of a name, where they are told and it is there
abbrev pub file_at : Option Files → List ℕ → Option (List ℕ)
file_at told name = option_and_then (λ files. files name) told

-- the name is there, where that is told
abbrev pub IsThere : Option Files → List ℕ → Type 0
IsThere told name = ForSome told (λ files. IsSome (files name))

-- the name is there and its bytes have this property, where that is told
abbrev pub IsThereWith : Option Files → List ℕ → (List ℕ → Type 0) → Type 0
IsThereWith told name Has = ForSome told (λ files. IsSomeAnd (files name) Has)

-- the same files, but that this name holds these bytes
unfoldable pub with_file : Option Files → List ℕ → List ℕ → Option Files
with_file told name bytes = option_map (λ files other. if bytes_eq name other then Some bytes else files other) told

-- the same files, but that this name holds more bytes, behind those that it held
unfoldable pub with_more : Option Files → List ℕ → List ℕ → Option Files
with_more told name more =
    option_map (λ files other. if bytes_eq name other then option_map (λ bytes. bytes ++ more) (files other) else files other) told

-- each name is there as it was, with the same bytes
abbrev pub SameFiles : Option Files → Option Files → Type 0
SameFiles old new = (name : List ℕ) → file_at new name ≡ file_at old name

-- each name but this one is there as it was, with the same bytes
abbrev pub SameOthers : Option Files → Option Files → List ℕ → Type 0
SameOthers old new name = (other : List ℕ) → other ≢ name → file_at new other ≡ file_at old other

-- the files of all names but this one
unfoldable pub without : Option Files → List ℕ → Option Files
without told name = option_map (λ files other. if bytes_eq name other then None else files other) told
