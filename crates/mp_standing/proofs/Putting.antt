-- Several entries, one after the other.
use Rattle.std.proofs.Common.{◌≡◌, ℕ, zero, suc, ◌+◌, ◌<◌, List, [], ◌∷◌, length, get_or, take, refl, ap, ◌∙◌, arith}
use Rattle.mp_chart.specs.declared.entry.Entry.{Entry}
use Rattle.mp_standing.specs.Held.{with_entry, with_all}

pub with_more : (held : List (List Entry)) (es : List Entry) (i : ℕ) (d : Entry) → i < length es → with_all held (take (i + 1) es) ≡ with_entry (with_all held (take i es)) (get_or es i d)
with_more held [] i d l = absurd (omega arith)
with_more held (e ∷ es) zero d l = refl
with_more held (e ∷ es) (suc i) d l =
    let next : suc i + 1 ≡ suc (i + 1) = omega arith in
    ap (λ (n : ℕ). with_all held (take n (e ∷ es))) next ∙ with_more (with_entry held e) es i d (omega arith)
