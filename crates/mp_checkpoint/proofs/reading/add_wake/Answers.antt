-- The text is a number in decimal, so it is read as this number.
use Rattle.std.proofs.Common.{◌++◌, ◌∷◌, [], ℕ, refl, sym, ap, ◌∙◌, arith}
use Rattle.mp_checkpoint.proofs.Numbers.{not_refused, read_again}
use Rattle.mp_checkpoint.proofs.reading.add_wake.Goals as goal

pub returns-in_default : goal.returns-in_default
returns-in_default c = λ time low e. absurd (not_refused time 18446744073709551615 c.in_default.field-0 c.args.start.rest.now (sym c.number.ensures ∙ c.in_default.is) e low (omega arith))

pub returns : goal.returns
returns c = λ time low e.
    let same = read_again time c.in-Ok.time 18446744073709551615 c.args.start.rest.now (sym c.number.ensures ∙ c.in-Ok.is) e low (omega arith) in
    (refl, c.in_ok-push.ensures.items ∙ ap (λ (n : ℕ). c.args.wakes.now.items ++ record { stage = c.args.start.stage; key = c.args.start.key; time = n } ∷ []) same)
