-- A wake that is put where it stands already changes nothing.
use Rattle.std.proofs.Common.{◌≡◌, ◌&&◌, ◌+◌, ◌∙◌, ℕ, Bool, true, false, List, Option, None, Some, ap, arith, drop, get_or, nat_eq, not, refl, set, sym}
use Rattle.std.specs.Option.{option_eq}
use Rattle.std.proofs.lemmas.Bool.{false≢true}
use Rattle.std.proofs.lemmas.List.{get_or-drop, set-get_or}

equal_parts : (v w : ℕ × ℕ) → (nat_eq v.0 w.0 && nat_eq v.1 w.1) ≡ true → (v.0 ≡ w.0) × (v.1 ≡ w.1)
equal_parts v w e = grind arith

same_wake : (v w : Option (ℕ × ℕ)) → option_eq (λ x y. nat_eq x.0 y.0 && nat_eq x.1 y.1) v w ≡ true → v ≡ w
same_wake None None e = refl
same_wake None (Some w) e = absurd (false≢true e)
same_wake (Some v) None e = absurd (false≢true e)
same_wake (Some v) (Some w) e = let both = equal_parts v w e in λ i. Some (both.0 i, both.1 i)

stands : (differs b : Bool) → differs ≡ not b → differs ≡ false → b ≡ true
stands differs true is e = refl
stands differs false is e = absurd (false≢true (sym e ∙ is))

pub set_same : (count at : ℕ) (tree : List (Option (ℕ × ℕ))) (v w : Option (ℕ × ℕ)) (differs : Bool) → v ≡ get_or tree (count + at) v → differs ≡ not (option_eq (λ x y. nat_eq x.0 y.0 && nat_eq x.1 y.1) v w) → differs ≡ false
    → drop count tree ≡ set (drop count tree) at w
set_same count at tree v w differs is e same =
    let there : w ≡ get_or (drop count tree) at v = sym (same_wake v w (stands differs _ e same)) ∙ (is ∙ sym (get_or-drop count tree at v)) in
    sym (ap (set (drop count tree) at) there ∙ set-get_or (drop count tree) at v)
