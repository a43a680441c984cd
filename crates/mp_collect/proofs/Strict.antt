-- A strictly sorted list: each element comes before all later ones.
use Rattle.std.proofs.Common.{◌≡◌, List, [], ◌∷◌, Contains, map, refl, subst, ⊎_elim}
use Rattle.std.proofs.lemmas.Map.Keys.{sorted_head, sorted_tail}
use Rattle.std.specs.List.{AllByRecursion}
use Rattle.std.specs.List.Sorted.{IsStrictlySortedBy}
use Rattle.std.specs.declared.cmp.Ordering.{Ordering}
use Rattle.std.specs.declared.cmp.Ordering.TheVariants.{Less}
use Rattle.mp_job.proofs.Members.{Contains-cases, map-Contains, nothing_in_nil}
use Rattle.mp_outline.proofs.Found.{found_there}
use Rattle.mp_outline.proofs.Pairs.{Pairs}

module _ {K : Type 0} where
  of_each : (P : K → Type 0) (xs : List K) → AllByRecursion P xs → (x : K) → Contains xs x → P x
  of_each P [] h x i = absurd (nothing_in_nil x i)
  of_each P (y ∷ ys) h x i = ⊎_elim (λ (e : y ≡ x). subst P e h.0) (λ (j : Contains ys x). of_each P ys h.1 x j) (Contains-cases y x ys i)

  pub strict_pairs : (R : K → K → Ordering) (xs : List K) → IsStrictlySortedBy R xs → Pairs (λ x y. R x y ≡ Less) xs
  strict_pairs R [] h = tt
  strict_pairs R (x ∷ xs) h = (of_each (λ y. R x y ≡ Less) xs (sorted_head R x xs h), strict_pairs R xs (sorted_tail R x xs h))

module _ {X Y : Type 0} (R : Y → Y → Type 0) (f : X → Y) where
  -- what holds between the things that elements make holds between them
  pub Pairs-made : (xs : List X) → Pairs R (map f xs) → Pairs (λ x y. R (f x) (f y)) xs
  Pairs-made [] h = tt
  Pairs-made (x ∷ xs) h = ((λ y i. h.0 (f y) (map-Contains f xs (f y) (found_there (λ z. f z ≡ f y) xs y i refl))), Pairs-made xs h.1)
