-- Which numbers lists have that are made of others.
use Rattle.std.proofs.Common.{◌≡◌, ◌==◌, ◌||◌, ◌&&◌, ◌++◌, ℕ, Bool, true, false, cond, List, [], ◌∷◌, All, filter, map, refl, sym, ap, ◌∙◌}
use Rattle.std.specs.List.{flat_map, list_any}
use Rattle.std.proofs.lemmas.List.Elements.{All-head, All-tail}
use Rattle.std.proofs.lemmas.List.Folds.{list_any-append}
use Rattle.mp_fold.proofs.Ascending.{has}

-- what is made of the elements, each a list
pub has-flat_map : {X : Type 0} (u : ℕ) (f : X → List ℕ) (xs : List X) → has u (flat_map f xs) ≡ list_any (λ x. has u (f x)) xs
has-flat_map u f [] = refl
has-flat_map u f (x ∷ xs) = list_any-append (λ (v : ℕ). v == u) (f x) (flat_map f xs) ∙ ap (λ b. has u (f x) || b) (has-flat_map u f xs)

-- a number and a list of each element
pub has-pairs : {X : Type 0} (u : ℕ) (g : X → ℕ) (f : X → List ℕ) (xs : List X) → has u (flat_map (λ x. g x ∷ f x) xs) ≡ has u (map g xs ++ flat_map f xs)
has-pairs u g f [] = refl
has-pairs u g f (x ∷ xs) =
    list_any-append (λ (v : ℕ). v == u) (g x ∷ f x) (flat_map (λ y. g y ∷ f y) xs)
    ∙ ap (λ b. (g x == u || has u (f x)) || b) (has-pairs u g f xs ∙ list_any-append (λ (v : ℕ). v == u) (map g xs) (flat_map f xs))
    ∙ regrouped (g x == u) (has u (f x)) (has u (map g xs)) (has u (flat_map f xs))
    ∙ sym
    (list_any-append (λ (v : ℕ). v == u) (map g (x ∷ xs)) (flat_map f (x ∷ xs))
    ∙ ap (λ b. (g x == u || has u (map g xs)) || b) (list_any-append (λ (v : ℕ). v == u) (f x) (flat_map f xs)))
  where
    regrouped : (a b c d : Bool) → ((a || b) || (c || d)) ≡ ((a || c) || (b || d))
    regrouped true b c d = refl
    regrouped false true true d = refl
    regrouped false true false d = refl
    regrouped false false true d = refl
    regrouped false false false d = refl

module _ {X : Type 0} where
  -- those that pass one test, of those that pass another
  pub any_kept : (p c : X → Bool) (xs : List X) → list_any p (filter c xs) ≡ list_any (λ x. c x && p x) xs
  any_kept p c [] = refl
  any_kept p c (x ∷ xs) = by (c x) (any_kept p c xs)
    where
      by : (b : Bool) → list_any p (filter c xs) ≡ list_any (λ y. c y && p y) xs → list_any p (cond b (x ∷ filter c xs) (filter c xs)) ≡ ((b && p x) || list_any (λ y. c y && p y) xs)
      by true rest = ap (λ d. p x || d) rest
      by false rest = rest

  pub kept_twice : (p c : X → Bool) (xs : List X) → filter p (filter c xs) ≡ filter (λ x. c x && p x) xs
  kept_twice p c [] = refl
  kept_twice p c (x ∷ xs) = by (c x) (kept_twice p c xs)
    where
      by : (b : Bool) → filter p (filter c xs) ≡ filter (λ y. c y && p y) xs → filter p (cond b (x ∷ filter c xs) (filter c xs)) ≡ cond (b && p x) (x ∷ filter (λ y. c y && p y) xs) (filter (λ y. c y && p y) xs)
      by true rest = ap (λ (ys : List X). cond (p x) (x ∷ ys) ys) rest
      by false rest = rest

  -- lists that are made alike
  pub flat_maps_agree : {Y : Type 0} (P : X → Type 0) (f g : X → List Y) → ((x : X) → P x → f x ≡ g x) → (xs : List X) → All P xs → flat_map f xs ≡ flat_map g xs
  flat_maps_agree P f g alike [] h = refl
  flat_maps_agree P f g alike (x ∷ xs) h =
      let first = alike x (All-head P x xs h) in
      let rest = flat_maps_agree P f g alike xs (All-tail P x xs h) in
      λ i. first i ++ rest i

  pub maps_agree : {Y : Type 0} (P : X → Type 0) (f g : X → Y) → ((x : X) → P x → f x ≡ g x) → (xs : List X) → All P xs → map f xs ≡ map g xs
  maps_agree P f g alike [] h = refl
  maps_agree P f g alike (x ∷ xs) h =
      let first = alike x (All-head P x xs h) in
      let rest = maps_agree P f g alike xs (All-tail P x xs h) in
      λ i. first i ∷ rest i
