-- What holds between each element of a list and all later ones.
use Rattle.std.proofs.Common.{◌≡◌, ◌⊎◌, ℕ, zero, suc, ◌<◌, Bool, List, [], ◌∷◌, ◌++◌, length, get_or, filter, AllPairs, Contains, sym, ◌∙◌, subst, inl, inr, ⊎_elim, arith}
use Rattle.std.proofs.lemmas.Bool.{cond_both}
use Rattle.std.proofs.lemmas.List.Elements.{Contains-append_cases, Contains-get_or}
use Rattle.mp_job.proofs.Ascents.{Rises}
use Rattle.mp_job.proofs.Members.{nothing_in_nil, Contains-filter, Contains-here, Contains-later, Contains-cases}

module _ {X : Type 0} where
  -- R holds between each element and all later ones
  abbrev pub Pairs : (X → X → Type 0) → List X → Type 0
  Pairs R [] = Unit {0}
  Pairs R (x ∷ xs) = ((y : X) → Contains xs y → R x y) × Pairs R xs

  pub Pairs-weaker : (R S : X → X → Type 0) → ((x y : X) → R x y → S x y) → (xs : List X) → Pairs R xs → Pairs S xs
  Pairs-weaker R S k [] h = tt
  Pairs-weaker R S k (x ∷ xs) h = ((λ y i. k x y (h.0 y i)), Pairs-weaker R S k xs h.1)

  -- it is enough that R holds between elements of the list
  pub Pairs-within : (R S : X → X → Type 0) (xs : List X) → ((x y : X) → Contains xs x → Contains xs y → R x y → S x y) → Pairs R xs → Pairs S xs
  Pairs-within R S [] k h = tt
  Pairs-within R S (x ∷ xs) k h = (
    (λ y i. k x y (Contains-here x xs) (Contains-later x y xs i) (h.0 y i)),
    Pairs-within R S xs (λ y z i j r. k y z (Contains-later x y xs i) (Contains-later x z xs j) r) h.1,
  )

  pub Pairs-filter : (R : X → X → Type 0) (p : X → Bool) (xs : List X) → Pairs R xs → Pairs R (filter p xs)
  Pairs-filter R p [] h = tt
  Pairs-filter R p (x ∷ xs) h =
      cond_both
      (p x)
      (x ∷ filter p xs)
      (filter p xs)
      (Pairs R)
      (λ e. ((λ y i. h.0 y (Contains-filter p xs y i).0), Pairs-filter R p xs h.1))
      (λ e. Pairs-filter R p xs h.1)

  pub Pairs-append : (R : X → X → Type 0) (xs ys : List X) → Pairs R xs → Pairs R ys → ((x y : X) → Contains xs x → Contains ys y → R x y) → Pairs R (xs ++ ys)
  Pairs-append R [] ys h k c = k
  Pairs-append R (x ∷ xs) ys h k c = (
    (λ y i. ⊎_elim (λ (j : Contains xs y). h.0 y j) (λ (j : Contains ys y). c x y (Contains-here x xs) j) (Contains-append_cases xs ys y i)),
    Pairs-append R xs ys h.1 k (λ z y i j. c z y (Contains-later x z xs i) j),
  )

  -- two elements are one, or it holds between them one way or the other
  pub Pairs-two : (R : X → X → Type 0) (xs : List X) → Pairs R xs → (x y : X) → Contains xs x → Contains xs y → (x ≡ y) ⊎ (R x y ⊎ R y x)
  Pairs-two R [] h x y i j = absurd (nothing_in_nil x i)
  Pairs-two R (z ∷ zs) h x y i j =
      ⊎_elim
      (λ (e : z ≡ x).
      ⊎_elim
      (λ (f : z ≡ y). inl (sym e ∙ f))
      (λ (k : Contains zs y). inr (inl (subst (λ (u : X). R u y) e (h.0 y k))))
      (Contains-cases z y zs j))
      (λ (k : Contains zs x).
      ⊎_elim
      (λ (f : z ≡ y). inr (inr (subst (λ (u : X). R u x) f (h.0 x k))))
      (λ (l : Contains zs y). Pairs-two R zs h.1 x y k l)
      (Contains-cases z y zs j))
      (Contains-cases z x zs i)

  -- it holds between the elements at any two places
  pub AllPairs-Pairs : (R : X → X → Type 0) (xs : List X) → Pairs R xs → AllPairs R xs
  AllPairs-Pairs R [] h i j d l m = absurd (omega arith)
  AllPairs-Pairs R (x ∷ xs) h zero zero d l m = absurd (omega arith)
  AllPairs-Pairs R (x ∷ xs) h zero (suc j) d l m = h.0 (get_or xs j d) (Contains-get_or xs j d (omega arith))
  AllPairs-Pairs R (x ∷ xs) h (suc i) zero d l m = absurd (omega arith)
  AllPairs-Pairs R (x ∷ xs) h (suc i) (suc j) d l m = AllPairs-Pairs R xs h.1 i j d (omega arith) (omega arith)

  -- and back
  pub Pairs-AllPairs : (R : X → X → Type 0) (xs : List X) → AllPairs R xs → Pairs R xs
  Pairs-AllPairs R [] h = tt
  Pairs-AllPairs R (x ∷ xs) h = (
    (λ y i. let l : i.0 < length xs = i.1 in subst (R x) i.2 (h 0 (suc i.0) y (omega arith) (omega arith))),
    Pairs-AllPairs R xs (λ i j d l m. h (suc i) (suc j) d (omega arith) (omega arith)),
  )

-- in a rising list each number is below all later ones
pub Pairs-Rises : (xs : List ℕ) → Rises xs → Pairs (λ x y. x < y) xs
Pairs-Rises [] h = tt
Pairs-Rises (x ∷ xs) h = (h.0, Pairs-Rises xs h.1)
