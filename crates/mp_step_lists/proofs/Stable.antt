-- A list in which a key doesn't fall is known by what stands at each key.
use Rattle.std.proofs.Common.{◌≡◌, ◌≢◌, ◌∙◌, ◌==◌, ◌⊎◌, ℕ, suc, ◌<◌, ◌≤◌, List, [], ◌∷◌, All, filter, refl, sym, subst, ⊎_elim, arith}
use Rattle.std.specs.List.Sorted.{IsNonDecreasingBy}
use Rattle.std.proofs.lemmas.Bool.{cases_eq, cases_order, cond-false, cond-true, eq-eqb, ne_eqb}
use Rattle.std.proofs.lemmas.List.Elements.{All-cons, All-tail}

module _ {X : Type 0} (key : X → ℕ) where
  -- what stands at one key, in its order
  abbrev pub at_key : ℕ → List X → List X
  at_key t xs = filter (λ x. key x == t) xs

  -- no key is below one in front of it
  abbrev pub Climbs : List X → Type 0
  Climbs [] = Unit {0}
  Climbs (x ∷ xs) = All (λ y. key x ≤ key y) xs × Climbs xs

  pub climbs_from : (xs : List X) → IsNonDecreasingBy key xs → Climbs xs
  climbs_from [] h = tt
  climbs_from (x ∷ xs) h = ((λ k d l. h 0 (suc k) d (omega arith) (omega arith)), climbs_from xs (λ i j d l m. h (suc i) (suc j) d (omega arith) (omega arith)))

  first_here : (t : ℕ) (x : X) (xs : List X) → key x ≡ t → at_key t (x ∷ xs) ≡ x ∷ at_key t xs
  first_here t x xs e = cond-true (key x == t) (x ∷ at_key t xs) (at_key t xs) (eq-eqb (key x) t e)

  first_not : (t : ℕ) (x : X) (xs : List X) → key x ≢ t → at_key t (x ∷ xs) ≡ at_key t xs
  first_not t x xs e = cond-false (key x == t) (x ∷ at_key t xs) (at_key t xs) (ne_eqb (key x) t e)

  -- below all keys there is nothing
  none_at : (t : ℕ) (xs : List X) → All (λ y. t < key y) xs → at_key t xs ≡ []
  none_at t [] h = refl
  none_at t (x ∷ xs) h =
      let first : t < key x = h 0 x (omega arith) in
      first_not t x xs (λ (e : key x ≡ t). omega arith) ∙ none_at t xs (All-tail (λ y. t < key y) x xs h)

  above : (t : ℕ) (y : X) (ys : List X) → t < key y → All (λ z. key y ≤ key z) ys → All (λ z. t < key z) (y ∷ ys)
  above t y ys l h = All-cons (λ z. t < key z) y ys l (λ k d m. let r = h k d m in omega arith)

  empty_or : (x : X) (xs : List X) → x ∷ xs ≡ [] → ⊥
  empty_or x xs e = cc

  same_head : (x y : X) (xs ys : List X) → x ∷ xs ≡ y ∷ ys → x ≡ y
  same_head x y xs ys e = cc

  same_rest : (x y : X) (xs ys : List X) → x ∷ xs ≡ y ∷ ys → xs ≡ ys
  same_rest x y xs ys e = cc

  joined : (x y : X) (xs ys : List X) → x ≡ y → xs ≡ ys → x ∷ xs ≡ y ∷ ys
  joined x y xs ys e f = cc

  pub same : (xs ys : List X) → Climbs xs → Climbs ys → ((t : ℕ) → at_key t xs ≡ at_key t ys) → xs ≡ ys
  same [] [] a b h = refl
  same [] (y ∷ ys) a b h = absurd (empty_or y (at_key (key y) ys) (sym (h (key y) ∙ first_here (key y) y ys refl)))
  same (x ∷ xs) [] a b h = absurd (empty_or x (at_key (key x) xs) (sym (first_here (key x) x xs refl) ∙ h (key x)))
  same (x ∷ xs) (y ∷ ys) a b h =
      ⊎_elim
      (λ (e : key x ≡ key y).
      let f : x ∷ at_key (key x) xs ≡ y ∷ at_key (key x) ys = sym (first_here (key x) x xs refl) ∙ h (key x) ∙ first_here (key x) y ys (sym e) in
      joined x y xs ys (same_head x y (at_key (key x) xs) (at_key (key x) ys) f) (same xs ys a.1 b.1 (λ t.
      ⊎_elim
      (λ (s : key x ≡ t). subst (λ (u : ℕ). at_key u xs ≡ at_key u ys) s (same_rest x y (at_key (key x) xs) (at_key (key x) ys) f))
      (λ (d : key x ≢ t). sym (first_not t x xs d) ∙ h t ∙ first_not t y ys (λ (s : key y ≡ t). d (e ∙ s)))
      (cases_eq (key x) t))))
      (λ (e : (key x < key y) ⊎ (key y < key x)).
      absurd (
      ⊎_elim
      (λ (l : key x < key y). empty_or x (at_key (key x) xs) (sym (first_here (key x) x xs refl) ∙ h (key x) ∙ none_at (key x) (y ∷ ys) (above (key x) y ys l b.0)))
      (λ (l : key y < key x). empty_or y (at_key (key y) ys) (sym (first_here (key y) y ys refl) ∙ sym (h (key y)) ∙ none_at (key y) (x ∷ xs) (above (key y) x xs l a.0)))
      e))
      (cases_order (key x) (key y))
