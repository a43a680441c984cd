-- The outputs of a group, from a place on.
use Rattle.std.proofs.Common.{ℕ, List, map}
use Rattle.std.specs.List.{enumerate_from}
use Rattle.mp_model.specs.declared.record.Output.{Output}
use Rattle.mp_model.specs.declared.value.Value.{Value}

-- the outputs of a group, the first of which has this place
abbrev pub outputs_from : ℕ → ℕ → ℕ → List Value → List Output
outputs_from t k place values = map (λ p. record { time = t; tag = record { 0 = k; 1 = p.0 }; value = p.1 }) (enumerate_from place values)
