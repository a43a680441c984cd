-- What holds between the elements of a list holds between what is made of them, in this order.
use Rattle.std.proofs.Common.{◌≡◌, ℕ, ◌+◌, ◌<◌, Option, Some, None, List, [], ◌∷◌, map, flat_map, Contains, refl, subst, arith}
use Rattle.std.specs.List.{cons_option, enumerate_from, filter_map}
use Rattle.mp_job.proofs.Members.{Contains-flat_map, Contains-map}
use Rattle.mp_outline.proofs.Found.{found}
use Rattle.mp_outline.proofs.FilterMaps.{maker}
use Rattle.mp_outline.proofs.Enumerated.{placed_at}
use Rattle.mp_outline.proofs.Pairs.{Pairs, Pairs-append}

module _ {Y : Type 0} (R : Y → Y → Type 0) where
  Pairs-first : (o : Option Y) (ys : List Y) → ((y w : Y) → o ≡ Some y → Contains ys w → R y w) → Pairs R ys → Pairs R (cons_option o ys)
  Pairs-first None ys c h = h
  Pairs-first (Some y) ys c h = ((λ w i. c y w refl i), h)

module _ {X Y : Type 0} (S : X → X → Type 0) (R : Y → Y → Type 0) where
  pub Pairs-map : (f : X → Y) → ((x z : X) → S x z → R (f x) (f z)) → (xs : List X) → Pairs S xs → Pairs R (map f xs)
  Pairs-map f k [] h = tt
  Pairs-map f k (x ∷ xs) h = (
    (λ y i. let a = found (λ z. f z ≡ y) xs (Contains-map f xs y i) in subst (λ (w : Y). R (f x) w) a.2 (k x a.0 (h.0 a.0 a.1))),
    Pairs-map f k xs h.1,
  )

  pub Pairs-filter_map : (f : X → Option Y) → ((x z : X) (y w : Y) → S x z → f x ≡ Some y → f z ≡ Some w → R y w) → (xs : List X) → Pairs S xs → Pairs R (filter_map f xs)
  Pairs-filter_map f k [] h = tt
  Pairs-filter_map f k (x ∷ xs) h =
      Pairs-first R (f x) (filter_map f xs) (λ y w e i. let a = maker f xs w i in k x a.0 y w (h.0 a.0 a.1) e a.2) (Pairs-filter_map f k xs h.1)

  pub Pairs-flat_map : (f : X → List Y) → ((x z : X) (y w : Y) → S x z → Contains (f x) y → Contains (f z) w → R y w) → ((x : X) → Pairs R (f x)) → (xs : List X) → Pairs S xs → Pairs R (flat_map f xs)
  Pairs-flat_map f k own [] h = tt
  Pairs-flat_map f k own (x ∷ xs) h =
      Pairs-append R (f x) (flat_map f xs) (own x) (Pairs-flat_map f k own xs h.1) (λ y w i j. let a = found (λ z. Contains (f z) w) xs (Contains-flat_map f xs w j) in k x a.0 y w (h.0 a.0 a.1) i a.2)

-- places rise
pub places_rise : {X : Type 0} (n : ℕ) (xs : List X) → Pairs (λ p r. p.0 < r.0) (enumerate_from n xs)
places_rise n [] = tt
places_rise n (x ∷ xs) = ((λ p i. let a = placed_at (n + 1) xs p i in let e : p.0 ≡ n + 1 + a.0 = a.1 in omega arith), places_rise (n + 1) xs)
