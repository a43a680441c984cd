-- The bytes of a text, as they stand in it.
use Rattle.std.specs.Prelude.{ℕ, List}
use Rattle.mp_model.specs.declared.text.Stored.{Stored}
use Rattle.mp_model.specs.declared.text.Stored.TheVariants.{Long, Short}

-- a short text is a short list, a long one a vector
abbrev pub bytes_stored : Stored → List ℕ
bytes_stored (Short bytes) = bytes
bytes_stored (Long bytes) = bytes.items
