-- What a sink in front of another has beside its bytes.
use Rattle.std.specs.Prelude.{ℕ, ◌∷◌}
use Rattle.mp_outside.specs.Sink.{Beside}

-- what a sink has that writes through a reference to another: all that the other has, with its own reference before its name
abbrev pub in_front : ℕ → Beside → Beside
in_front lender inner = record { lender = lender; name = inner.lender ∷ inner.name; others = inner.others; read_faults = inner.read_faults }
