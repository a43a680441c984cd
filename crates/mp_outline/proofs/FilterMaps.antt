-- What stands among the things that elements make, where they make one.
use Rattle.std.proofs.Common.{◌≡◌, ◌⊎◌, Option, Some, None, List, [], ◌∷◌, Any, Contains, sym, ap, subst, inl, inr, ⊎_elim}
use Rattle.std.specs.List.{cons_option, filter_map}
use Rattle.mp_job.proofs.Members.{nothing_in_nil, nothing_at_nil, Any-here, Any-later, Any-cases, Contains-here, Contains-later, Contains-cases}
use Rattle.mp_outline.proofs.Found.{found, found_there}

module _ {Y : Type 0} where
  first_or_later : (o : Option Y) (ys : List Y) (y : Y) → Contains (cons_option o ys) y → (o ≡ Some y) ⊎ Contains ys y
  first_or_later None ys y h = inr h
  first_or_later (Some z) ys y h = ⊎_elim (λ (e : z ≡ y). inl (ap Some e)) (λ (i : Contains ys y). inr i) (Contains-cases z y ys h)

  made_first : (o : Option Y) (ys : List Y) (y : Y) → o ≡ Some y → Contains (cons_option o ys) y
  made_first o ys y e = subst (λ (p : Option Y). Contains (cons_option p ys) y) (sym e) (Contains-here y ys)

  made_later : (o : Option Y) (ys : List Y) (y : Y) → Contains ys y → Contains (cons_option o ys) y
  made_later None ys y h = h
  made_later (Some z) ys y h = Contains-later z y ys h

module _ {X Y : Type 0} (f : X → Option Y) where
  some_makes : (xs : List X) (y : Y) → Contains (filter_map f xs) y → Any (λ x. f x ≡ Some y) xs
  some_makes [] y h = absurd (nothing_in_nil y h)
  some_makes (x ∷ xs) y h =
      ⊎_elim
      (λ (e : f x ≡ Some y). Any-here (λ z. f z ≡ Some y) x xs e)
      (λ (i : Contains (filter_map f xs) y). Any-later (λ z. f z ≡ Some y) x xs (some_makes xs y i))
      (first_or_later (f x) (filter_map f xs) y h)

  makes_some : (xs : List X) (y : Y) → Any (λ x. f x ≡ Some y) xs → Contains (filter_map f xs) y
  makes_some [] y h = absurd (nothing_at_nil (λ x. f x ≡ Some y) h)
  makes_some (x ∷ xs) y h =
      ⊎_elim
      (λ (e : f x ≡ Some y). made_first (f x) (filter_map f xs) y e)
      (λ (i : Any (λ z. f z ≡ Some y) xs). made_later (f x) (filter_map f xs) y (makes_some xs y i))
      (Any-cases (λ z. f z ≡ Some y) x xs h)

  -- what was made was made by an element
  pub maker : (xs : List X) (y : Y) → Contains (filter_map f xs) y → (x : X) × Contains xs x × (f x ≡ Some y)
  maker xs y h = found (λ x. f x ≡ Some y) xs (some_makes xs y h)

  -- what an element makes stands there
  pub made : (xs : List X) (x : X) (y : Y) → Contains xs x → f x ≡ Some y → Contains (filter_map f xs) y
  made xs x y i e = makes_some xs y (found_there (λ z. f z ≡ Some y) xs x i e)
