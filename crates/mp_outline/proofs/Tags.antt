-- Tags in order.
use Rattle.std.proofs.Common.{◌≡◌, ◌<◌, ap, ⊎_elim, arith}
use Rattle.mp_names.specs.declared.names.Tag.{Tag}
use Rattle.mp_outline.specs.Laws.{TagIsBefore}

-- no tag is before itself
pub tag_irreflexive : (a b : Tag) → TagIsBefore a b → a ≡ b → ⊥
tag_irreflexive a b h e =
    let first : a.0 ≡ b.0 = ap (λ (g : Tag). g.0) e in
    let second : a.1 ≡ b.1 = ap (λ (g : Tag). g.1) e in
    ⊎_elim (λ (l : a.0 < b.0). omega arith) (λ (l : (a.0 ≡ b.0) × (a.1 < b.1)). let m : a.1 < b.1 = l.1 in omega arith) h
