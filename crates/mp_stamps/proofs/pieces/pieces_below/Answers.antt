use Rattle.std.proofs.Common.{◌≡◌, ◌∙◌, ◌==◌, ◌+◌, ◌/◌, ℕ, true, false, ap, length, rules, sym}
use Rattle.std.proofs.lemmas.Bool.{eq-eqb, eqb-true, false_from_ne_true}
use Rattle.mp_stamps.specs.Counts.{number_below}
use Rattle.mp_stamps.proofs.pieces.pieces_below.Goals as goal

pub returns-then-below-times : goal.returns-then-below-times
returns-then-below-times c =
    let times = c.args.times.now in
    let all : c.number_below-below.result ≡ length times = search rules in
    let f : (number_below times c.args.time == length times) ≡ true = eq-eqb _ _ (sym c.number_below-below.ensures ∙ all) in
    rw f (ap (λ (n : ℕ). n / 1024 + 1) all)

pub returns-else-below-times : goal.returns-else-below-times
returns-else-below-times c =
    let times = c.args.times.now in
    let not : c.number_below-below.result ≡ length times → ⊥ = search rules in
    let f : (number_below times c.args.time == length times) ≡ false = false_from_ne_true _ (λ e. not (c.number_below-below.ensures ∙ eqb-true (number_below times c.args.time) (length times) e)) in
    rw f (ap (λ (n : ℕ). n / 1024) c.number_below-below.ensures)
