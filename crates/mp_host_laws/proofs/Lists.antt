-- Lists: what holds between their elements, what a filter keeps, and items that are put in order.
use Rattle.std.proofs.Common.{◌≡◌, ◌⊎◌, ℕ, suc, ◌<◌, ◌≤◌, Bool, true, false, nat_lt, List, [], ◌∷◌, length, filter, fold, take_while, All, AllPairs, Contains, refl, ap, ◌∙◌, subst, inl, inr, ⊎_elim, arith}
use Rattle.std.specs.List.{list_any}
use Rattle.std.proofs.lemmas.Bool.{cases_lt, cond_both, le-ltb, lt-ltb}
use Rattle.std.proofs.lemmas.List.Elements.{All-contains_itself, All-weaker}
use Rattle.std.proofs.lemmas.List.Folds.{Any-from_list_any, list_any-from_Any}
use Rattle.std.proofs.lemmas.List.Sums.{take_while-cons}
use Rattle.mp_names.specs.Names.{is_before}
use Rattle.mp_ordered.specs.InOrder.{put_in_order}
use Rattle.mp_job.proofs.Members.{nothing_in_nil, Contains-here, Contains-later, Contains-cases}
use Rattle.mp_outline.proofs.Found.{found, found_there}
use Rattle.mp_outline.proofs.Pairs.{Pairs}

module _ {X : Type 0} where
  -- some element passes a test
  pub passing : (p : X → Bool) (xs : List X) → list_any p xs ≡ true → (x : X) × Contains xs x × (p x ≡ true)
  passing p xs h = found (λ x. p x ≡ true) xs (Any-from_list_any p xs h)

  pub passes : (p : X → Bool) (xs : List X) (x : X) → Contains xs x → p x ≡ true → list_any p xs ≡ true
  passes p xs x i e = list_any-from_Any p xs (found_there (λ y. p y ≡ true) xs x i e)

  -- what holds of whatever stands in a list holds of each element
  pub All-each : (P : X → Type 0) (xs : List X) → ((x : X) → Contains xs x → P x) → All P xs
  All-each P xs h = All-weaker (Contains xs) P h xs (All-contains_itself xs)

  -- what holds between the elements at any two places holds between each element and all later ones
  pub Pairs-AllPairs : (R : X → X → Type 0) (xs : List X) → AllPairs R xs → Pairs R xs
  Pairs-AllPairs R [] h = tt
  Pairs-AllPairs R (x ∷ xs) h = (
    (λ y i. let l : i.0 < length xs = i.1 in subst (R x) i.2 (h 0 (suc i.0) y (omega arith) (omega arith))),
    Pairs-AllPairs R xs (λ i j d l m. h (suc i) (suc j) d (omega arith) (omega arith)),
  )

  -- tests that agree at the elements keep the same ones
  pub filter_within : (p q : X → Bool) (xs : List X) → ((x : X) → Contains xs x → p x ≡ q x) → filter p xs ≡ filter q xs
  filter_within p q [] h = refl
  filter_within p q (x ∷ xs) h =
      rw (h x (Contains-here x xs), filter_within p q xs (λ y i. h y (Contains-later x y xs i))) refl

  -- what none passes keeps nothing
  pub filter_none : (p : X → Bool) (xs : List X) → ((x : X) → Contains xs x → p x ≡ false) → filter p xs ≡ []
  filter_none p [] h = refl
  filter_none p (x ∷ xs) h = rw (h x (Contains-here x xs)) (filter_none p xs (λ y i. h y (Contains-later x y xs i)))

-- Things with a number, such as a time, that rises

module _ {X : Type 0} (n : X → ℕ) where
  -- what passes just below a number is what stands in front of it
  pub take_below : (p : X → Bool) (t : ℕ) (xs : List X) → Pairs (λ x y. n x < n y) xs → ((x : X) → Contains xs x → n x < t → p x ≡ true) → ((x : X) → Contains xs x → t ≤ n x → p x ≡ false)
      → filter p xs ≡ take_while (λ x. nat_lt (n x) t) xs
  take_below p t [] h early late = refl
  take_below p t (x ∷ xs) h early late =
      ⊎_elim
      (λ (l : n x < t).
      let e : p x ≡ true = early x (Contains-here x xs) l in
      let f : nat_lt (n x) t ≡ true = lt-ltb (n x) t l in
      rw (take_while-cons (λ y. nat_lt (n y) t) x xs, e, f) (ap (λ (ys : List X). x ∷ ys) (take_below p t xs h.1 (λ y i. early y (Contains-later x y xs i)) (λ y i. late y (Contains-later x y xs i)))))
      (λ (l : t ≤ n x).
      let e : p x ≡ false = late x (Contains-here x xs) l in
      let f : nat_lt (n x) t ≡ false = le-ltb (n x) t l in
      rw (take_while-cons (λ y. nat_lt (n y) t) x xs, e, f) (filter_none p xs (λ y i. let m : n x < n y = h.0 y i in late y (Contains-later x y xs i) (omega arith))))
      (cases_lt (n x) t)

  -- a fold over what passes up to a number takes the element of that number last
  pub fold_upto : {C : Type 0} (f : C → X → C) (c : C) (p : X → Bool) (t : ℕ) (e : X) (xs : List X) → Pairs (λ x y. n x < n y) xs → Contains xs e → n e ≡ t
      → ((x : X) → Contains xs x → n x ≤ t → p x ≡ true) → ((x : X) → Contains xs x → t < n x → p x ≡ false)
      → fold f c (filter p xs) ≡ f (fold f c (take_while (λ x. nat_lt (n x) t) xs)) e
  fold_upto {C} f c p t e [] h i same early late = absurd (nothing_in_nil e i)
  fold_upto {C} f c p t e (x ∷ xs) h i same early late =
      ⊎_elim
      (λ (s : x ≡ e).
      let m : n x ≡ t = ap n s ∙ same in
      let a : p x ≡ true = early x (Contains-here x xs) (omega arith) in
      let b : nat_lt (n x) t ≡ false = le-ltb (n x) t (omega arith) in
      let d : filter p xs ≡ [] = filter_none p xs (λ y k. let l : n x < n y = h.0 y k in late y (Contains-later x y xs k) (omega arith)) in
      rw (take_while-cons (λ y. nat_lt (n y) t) x xs, a, b, d) (ap (f c) s))
      (λ (k : Contains xs e).
      let l : n x < n e = h.0 e k in
      let a : p x ≡ true = early x (Contains-here x xs) (omega arith) in
      let b : nat_lt (n x) t ≡ true = lt-ltb (n x) t (omega arith) in
      rw (take_while-cons (λ y. nat_lt (n y) t) x xs, a, b) (fold_upto f (f c x) p t e xs h.1 k same (λ y m. early y (Contains-later x y xs m)) (λ y m. late y (Contains-later x y xs m))))
      (Contains-cases x e xs i)

-- Items that are put in order

module _ {T : Type 0} (rank : T → List ℕ) where
  -- it is the item, or it stood there
  pub Contains-put : (x : T) (ys : List T) (z : T) → Contains (put_in_order rank x ys) z → (x ≡ z) ⊎ Contains ys z
  Contains-put x [] z = λ i. Contains-cases x z [] i
  Contains-put x (y ∷ ys) z =
      cond_both (is_before (rank y) (rank x)) (y ∷ put_in_order rank x ys) (x ∷ y ∷ ys) (λ zs. Contains zs z → (x ≡ z) ⊎ Contains (y ∷ ys) z)
      (λ e i.
      ⊎_elim
      (λ (s : y ≡ z). inr (subst (λ (u : T). Contains (y ∷ ys) u) s (Contains-here y ys)))
      (λ (m : Contains (put_in_order rank x ys) z). ⊎_elim (λ (s : x ≡ z). inl s) (λ (k : Contains ys z). inr (Contains-later y z ys k)) (Contains-put x ys z m))
      (Contains-cases y z (put_in_order rank x ys) i))
      (λ e i. Contains-cases x z (y ∷ ys) i)

  -- and the other way round
  pub put-Contains : (x : T) (ys : List T) (z : T) → (x ≡ z) ⊎ Contains ys z → Contains (put_in_order rank x ys) z
  put-Contains x [] z h = ⊎_elim (λ (s : x ≡ z). subst (λ (u : T). Contains (x ∷ []) u) s (Contains-here x [])) (λ (i : Contains [] z). absurd (nothing_in_nil z i)) h
  put-Contains x (y ∷ ys) z h =
      cond_both (is_before (rank y) (rank x)) (y ∷ put_in_order rank x ys) (x ∷ y ∷ ys) (λ zs. Contains zs z)
      (λ e.
      ⊎_elim
      (λ (s : x ≡ z). Contains-later y z (put_in_order rank x ys) (put-Contains x ys z (inl s)))
      (λ (i : Contains (y ∷ ys) z).
      ⊎_elim
      (λ (s : y ≡ z). subst (λ (u : T). Contains (y ∷ put_in_order rank x ys) u) s (Contains-here y (put_in_order rank x ys)))
      (λ (k : Contains ys z). Contains-later y z (put_in_order rank x ys) (put-Contains x ys z (inr k)))
      (Contains-cases y z ys i))
      h)
      (λ e.
      ⊎_elim
      (λ (s : x ≡ z). subst (λ (u : T). Contains (x ∷ y ∷ ys) u) s (Contains-here x (y ∷ ys)))
      (λ (i : Contains (y ∷ ys) z). Contains-later x z (y ∷ ys) i)
      h)

  -- what holds both ways between the item and all others, and between those, holds between all
  pub Pairs-put : (R : T → T → Type 0) → ((x y : T) → R x y → R y x) → (x : T) (ys : List T) → ((y : T) → Contains ys y → R x y) → Pairs R ys → Pairs R (put_in_order rank x ys)
  Pairs-put R turn x [] h k = ((λ y i. absurd (nothing_in_nil y i)), tt)
  Pairs-put R turn x (y ∷ ys) h k =
      cond_both (is_before (rank y) (rank x)) (y ∷ put_in_order rank x ys) (x ∷ y ∷ ys) (Pairs R)
      (λ e. (
        (λ z i. ⊎_elim (λ (s : x ≡ z). subst (R y) s (turn x y (h y (Contains-here y ys)))) (λ (m : Contains ys z). k.0 z m) (Contains-put x ys z i)),
        Pairs-put R turn x ys (λ z i. h z (Contains-later y z ys i)) k.1,
      ))
      (λ e. (h, k))
