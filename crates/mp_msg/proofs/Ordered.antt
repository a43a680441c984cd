-- Lists in an order are told by their elements.
use Rattle.std.proofs.Common.{◌≡◌, List, [], ◌∷◌, Contains, refl, sym, ◌∙◌, subst, ⊎_elim}
use Rattle.mp_outline.specs.Below.{nothing_in_nil, Contains-here, Contains-later, Contains-cases}
use Rattle.mp_outline.proofs.Pairs.{Pairs}

module _ {X : Type 0} (R : X → X → Type 0) (apart : (x y : X) → R x y → R y x → ⊥) where
  -- what comes after the head of a list is among the others of a list with that head
  among_others : (x y : X) (xs ys : List X) → x ≡ y → ((z : X) → Contains xs z → R x z) → ((z : X) → Contains xs z → Contains (y ∷ ys) z) → (z : X) → Contains xs z → Contains ys z
  among_others x y xs ys e after there z i =
      ⊎_elim
      (λ (s : y ≡ z). let own : R x x = subst (R x) (sym (e ∙ s)) (after z i) in absurd (apart x x own own))
      (λ (k : Contains ys z). k)
      (Contains-cases y z ys (there z i))

  -- two lists in an order that have the same elements are one
  pub same_ordered : (xs ys : List X) → Pairs R xs → Pairs R ys → ((x : X) → Contains xs x → Contains ys x) → ((x : X) → Contains ys x → Contains xs x) → xs ≡ ys
  same_ordered [] [] h k f g = refl
  same_ordered [] (y ∷ ys) h k f g = absurd (nothing_in_nil y (g y (Contains-here y ys)))
  same_ordered (x ∷ xs) [] h k f g = absurd (nothing_in_nil x (f x (Contains-here x xs)))
  same_ordered (x ∷ xs) (y ∷ ys) h k f g =
      let rest : xs ≡ ys = same_ordered xs ys h.1 k.1 (among_others x y xs ys first h.0 (λ z i. f z (Contains-later x z xs i))) (among_others y x ys xs (sym first) k.0 (λ z i. g z (Contains-later y z ys i))) in
      let head : x ≡ y = first in
      cc
    where
      first : x ≡ y
      first =
          ⊎_elim
          (λ (e : y ≡ x). sym e)
          (λ (i : Contains ys x). ⊎_elim (λ (e : x ≡ y). e) (λ (m : Contains xs y). absurd (apart x y (h.0 y m) (k.0 x i))) (Contains-cases x y xs (g y (Contains-here y ys))))
          (Contains-cases y x ys (f x (Contains-here x xs)))
