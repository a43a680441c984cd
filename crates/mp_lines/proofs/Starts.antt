-- Lists by their first elements and by their parts.
use Rattle.std.proofs.Common.{◌≡◌, Bool, true, false, List, [], ◌∷◌, ◌++◌, Some, map, refl}
use Rattle.std.specs.List.{slice_get}
use Rattle.mp_lines.specs.Checks.{check}

-- the first of a list stays the first
pub slice_get-append : {X : Type 0} (xs ys : List X) (x : X) → slice_get xs 0 ≡ Some x → slice_get (xs ++ ys) 0 ≡ Some x
slice_get-append [] ys x e = absurd (cc)
slice_get-append (y ∷ xs) ys x e = e

-- two lists that make none are none
pub empty_parts : {X : Type 0} (xs ys : List X) → xs ++ ys ≡ [] → (xs ≡ []) × (ys ≡ [])
empty_parts [] ys e = (refl, e)
empty_parts (x ∷ xs) ys e = absurd (cc)

-- a list of which a list of none is made is none
pub empty_map : {X Y : Type 0} (f : X → Y) (xs : List X) → map f xs ≡ [] → xs ≡ []
empty_map f [] e = refl
empty_map f (x ∷ xs) e = absurd (cc)

-- a check that doesn't fail passes
pub passes : {Reason : Type 0} (b : Bool) (why : Reason) → check b why ≡ [] → b ≡ true
passes true why e = refl
passes false why e = absurd (cc)
