-- What holds of each two elements of a list, of which the first stands in front.
use Rattle.std.proofs.Common.{suc, ◌<◌, List, [], ◌∷◌, AllPairs, Contains, get_or, length, map, arith, subst, sym}
use Rattle.std.proofs.lemmas.List.{get_or-map, length-map}
use Rattle.std.proofs.lemmas.List.Elements.{All-contains_itself, All-weaker}
use Rattle.std.specs.Prelude.{All}

module _ {X : Type 0} where
  module _ (R : X → X → Type 0) where
    pub AllPairs-head : (x : X) (xs : List X) → AllPairs R (x ∷ xs) → (y : X) → Contains xs y → R x y
    AllPairs-head x xs h y i =
        let inside : i.0 < length xs = i.1 in
        subst (R x) i.2 (h 0 (suc i.0) y (omega arith) (omega arith))

    pub AllPairs-tail : (x : X) (xs : List X) → AllPairs R (x ∷ xs) → AllPairs R xs
    AllPairs-tail x xs h i j d l m = h (suc i) (suc j) d (omega arith) (omega arith)

  -- what holds of each element of the list
  pub All-from_Contains : (P : X → Type 0) (xs : List X) → ((x : X) → Contains xs x → P x) → All P xs
  All-from_Contains P xs h = All-weaker (Contains xs) P h xs (All-contains_itself xs)

-- what holds of each two elements once they are mapped holds in the mapped list
pub AllPairs-map : {X Y : Type 0} (R : Y → Y → Type 0) (f : X → Y) (xs : List X) → AllPairs (λ x y. R (f x) (f y)) xs → AllPairs R (map f xs)
AllPairs-map R f [] h i j d l m = absurd (omega arith)
AllPairs-map R f (x ∷ xs) h i j d l m =
    let n : j < length (x ∷ xs) = omega (arith, m, length-map (x ∷ xs) f) in
    let a = get_or-map f (x ∷ xs) i x d (omega (arith, l, n)) in
    let b = get_or-map f (x ∷ xs) j x d n in
    subst (λ y. R (get_or (map f (x ∷ xs)) i d) y) (sym b) (subst (λ y. R y (f (get_or (x ∷ xs) j x))) (sym a) (h i j x l n))
