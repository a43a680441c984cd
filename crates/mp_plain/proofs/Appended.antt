-- What a sink has beside its bytes, over several calls.
use Rattle.std.proofs.Common.{ℕ, refl, ◌∙◌, arith}
use Rattle.mp_outside.specs.Sink.{Beside, OnlyAppends}

module _ {S : Type 0} (frame : S → Beside) (faults : S → ℕ) where
  pub appends_none : (s : S) → OnlyAppends frame faults s s
  appends_none s = record { same_frame = refl; faults_grow = omega arith }

  pub appends_further : (a b c : S) → OnlyAppends frame faults a b → OnlyAppends frame faults b c → OnlyAppends frame faults a c
  appends_further a b c first then_on =
      let early = first.faults_grow in
      let late = then_on.faults_grow in
      record { same_frame = then_on.same_frame ∙ first.same_frame; faults_grow = omega arith }
