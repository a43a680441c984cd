-- The first owners of all bins, as a table.
use Rattle.std.specs.Prelude.{◌≡◌, ◌<◌, ◌*◌, ◌%◌, ◌/◌, ℕ, List, length, slice_index_or}
use Rattle.mp_names.specs.declared.controls.First.{First}
use Rattle.mp_names.specs.declared.controls.Shape.{Shape}
use Rattle.mp_layout.specs.Layouts.{first_owner}

-- by stage and bin, the first owner of each
abbrev pub AreOwnersBy : Shape → List First → List ℕ → Type 0
AreOwnersBy shape firsts owners =
    (length owners ≡ shape.stages * shape.bins)
    × ((i : ℕ) → i < shape.stages * shape.bins → slice_index_or owners i 0 ≡ first_owner (record { shape = shape; firsts = firsts }) (i / shape.bins) (i % shape.bins))
