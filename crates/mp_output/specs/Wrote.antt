-- What a call wrote.
use Rattle.std.specs.Prelude.{ℕ, Result, Ok}
use Rattle.mp_output.specs.declared.refused.OutRefused.{OutRefused}
use Rattle.mp_output.specs.declared.rows.Wrote.{Wrote}
use Rattle.mp_output.specs.declared.rows.Wrote.TheVariants.{Time, Nothing}

-- where the call wrote a time, this holds of it
abbrev pub IfTime : Result Wrote OutRefused → (ℕ → Type 0) → Type 0
IfTime (Ok (Time t)) P = P t
IfTime _ P = Unit {0}

-- where the call had nothing to write, this holds
abbrev pub IfNothing : Result Wrote OutRefused → Type 0 → Type 0
IfNothing (Ok Nothing) A = A
IfNothing _ A = Unit {0}
