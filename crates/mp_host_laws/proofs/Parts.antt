-- A list in which one element stands among others.
use Rattle.std.proofs.Common.{◌≡◌, ◌⊎◌, List, [], ◌∷◌, ◌++◌, Any, Contains, subst, inl, inr, ⊎_elim}
use Rattle.std.proofs.lemmas.List.Elements.{Contains-append_cases, Contains-append_left, Contains-append_right}
use Rattle.mp_job.proofs.Members.{Contains-cases, Contains-later, nothing_in_nil}
use Rattle.mp_outline.proofs.Found.{found, found_there}
use Rattle.mp_outline.proofs.Pairs.{Pairs, Pairs-append}
use Rattle.mp_host_laws.proofs.Changed.{Contains-one}

module _ {X : Type 0} where
  -- what holds of some element, where the elements are among those of another list
  pub Any-among : (P : X → Type 0) (xs ys : List X) → ((x : X) → Contains xs x → Contains ys x) → Any P xs → Any P ys
  Any-among P xs ys among h = let r = found P xs h in found_there P ys r.0 (among r.0 r.1) r.2

  -- One element among others

  pub other_is_in : (x : X) (xs ys : List X) (y : X) → Contains (xs ++ ys) y → Contains (xs ++ x ∷ ys) y
  other_is_in x xs ys y i =
      ⊎_elim
      (λ (k : Contains xs y). Contains-append_left xs (x ∷ ys) y k)
      (λ (k : Contains ys y). Contains-append_right xs (x ∷ ys) y (Contains-later x y ys k))
      (Contains-append_cases xs ys y i)

  -- each is the one or another
  pub one_or_other : (x : X) (xs ys : List X) (y : X) → Contains (xs ++ x ∷ ys) y → (x ≡ y) ⊎ Contains (xs ++ ys) y
  one_or_other x xs ys y i =
      ⊎_elim
      (λ (k : Contains xs y). inr (Contains-append_left xs ys y k))
      (λ (k : Contains (x ∷ ys) y). ⊎_elim (λ (e : x ≡ y). inl e) (λ (l : Contains ys y). inr (Contains-append_right xs ys y l)) (Contains-cases x y ys k))
      (Contains-append_cases xs (x ∷ ys) y i)

  -- what holds between all holds between the others
  pub Pairs-others : (R : X → X → Type 0) (x : X) (xs ys : List X) → Pairs R (xs ++ x ∷ ys) → Pairs R (xs ++ ys)
  Pairs-others R x [] ys h = h.1
  Pairs-others R x (z ∷ xs) ys h = ((λ y i. h.0 y (other_is_in x xs ys y i)), Pairs-others R x xs ys h.1)

  -- and, where it holds both ways, between the one and each other
  pub Pairs-one : (R : X → X → Type 0) → ((y z : X) → R y z → R z y) → (x : X) (xs ys : List X) → Pairs R (xs ++ x ∷ ys) → (y : X) → Contains (xs ++ ys) y → R x y
  Pairs-one R turn x [] ys h y i = h.0 y i
  Pairs-one R turn x (z ∷ xs) ys h y i =
      ⊎_elim
      (λ (e : z ≡ y). subst (R x) e (turn z x (h.0 x (Contains-one xs x x ys))))
      (λ (k : Contains (xs ++ ys) y). Pairs-one R turn x xs ys h.1 y k)
      (Contains-cases z y (xs ++ ys) i)

  -- what holds between elements, and of each with one more
  pub Pairs-push : (R : X → X → Type 0) (xs : List X) (x : X) → Pairs R xs → ((y : X) → Contains xs y → R y x) → Pairs R (xs ++ x ∷ [])
  Pairs-push R xs x h k =
      Pairs-append R xs (x ∷ []) h ((λ y i. absurd (nothing_in_nil y i)), tt)
      (λ y z i j. ⊎_elim (λ (e : x ≡ z). subst (R y) e (k y i)) (λ (l : Contains [] z). absurd (nothing_in_nil z l)) (Contains-cases x z [] j))
