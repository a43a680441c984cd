-- Lists with one more name at the end: what stands in them, what passes a test, how many do.
use Rattle.std.proofs.Common.{◌≡◌, ℕ, ◌+◌, ◌&&◌, ◌||◌, ◌==◌, Bool, true, false, cond, List, [], ◌∷◌, ◌++◌, refl, ap, ◌∙◌}
use Rattle.std.specs.List.{list_any}
use Rattle.std.proofs.lemmas.Bool.{or_right}
use Rattle.std.proofs.lemmas.List.Sums.{sum_by_push}
use Rattle.mp_names.specs.declared.names.Name.{Name}
use Rattle.mp_names.specs.Frontiers.{number_at}
use Rattle.mp_names.specs.Names.{same_name, has}
use Rattle.mp_names.specs.Outlines.{Outline, time_of}

pub or_false : (b : Bool) → (b || false) ≡ b
or_false true = refl
or_false false = refl

or_assoc : (a b c : Bool) → (a || (b || c)) ≡ ((a || b) || c)
or_assoc true b c = refl
or_assoc false b c = refl

pub has_push : (xs : List Name) (x y : Name) → has (xs ++ x ∷ []) y ≡ (has xs y || same_name x y)
has_push [] x y = or_false (same_name x y)
has_push (z ∷ zs) x y = ap (λ (b : Bool). same_name z y || b) (has_push zs x y) ∙ or_assoc (same_name z y) (has zs y) (same_name x y)

-- another name stands in the list as before
pub has_other : (xs : List Name) (x y : Name) → same_name x y ≡ false → has (xs ++ x ∷ []) y ≡ has xs y
has_other xs x y e = has_push xs x y ∙ ap (λ (b : Bool). has xs y || b) e ∙ or_false (has xs y)

pub has_new : (xs : List Name) (x y : Name) → same_name x y ≡ true → has (xs ++ x ∷ []) y ≡ true
has_new xs x y e = has_push xs x y ∙ or_right (has xs y) (same_name x y) e

pub any_push : (p : Name → Bool) (xs : List Name) (x : Name) → list_any p (xs ++ x ∷ []) ≡ (list_any p xs || p x)
any_push p [] x = or_false (p x)
any_push p (y ∷ ys) x = ap (λ (b : Bool). p y || b) (any_push p ys x) ∙ or_assoc (p y) (list_any p ys) (p x)

pub any_other : (p : Name → Bool) (xs : List Name) (x : Name) → p x ≡ false → list_any p (xs ++ x ∷ []) ≡ list_any p xs
any_other p xs x e = any_push p xs x ∙ ap (λ (b : Bool). list_any p xs || b) e ∙ or_false (list_any p xs)

pub number_push : (o : Outline) (p : Name → Bool) (u : ℕ) (xs : List Name) (x : Name) → number_at o p u (xs ++ x ∷ []) ≡ number_at o p u xs + cond (p x && time_of o x == u) 1 0
number_push o p u xs x = sum_by_push (λ y. cond (p y && time_of o y == u) 1 0) xs x
