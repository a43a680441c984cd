-- Texts cut by a byte.
use Rattle.std.proofs.Common.{ℕ, ◌≡◌, ◌++◌, List, [], ◌∷◌, map, refl, ap, append-nil}
use Rattle.std.specs.List.{flat_map, join_with_byte}

-- texts cut by a byte are the first, and the others each after that byte
pub join_with_byte-cons : {X : Type 0} (c : ℕ) (f : X → List ℕ) (first : List ℕ) (xs : List X) → join_with_byte c (first ∷ map f xs) ≡ first ++ flat_map (λ x. c ∷ f x) xs
join_with_byte-cons c f first [] = rw (append-nil first) refl
join_with_byte-cons c f first (x ∷ xs) = ap (λ (rest : List ℕ). first ++ c ∷ rest) (join_with_byte-cons c f (f x) xs)
