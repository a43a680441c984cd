-- Elements of lists that are made of others by a map or a filter.
use Rattle.std.proofs.Common.{◌≡◌, Bool, true, not, List, Contains, filter, map, refl, sym, ap, ◌∙◌, ◌++◌, ⊎_elim, arith}
use Rattle.std.proofs.lemmas.Bool.{false≢true}
use Rattle.std.proofs.lemmas.List.{get_or-map, length-map}
use Rattle.std.proofs.lemmas.List.Elements.{All-contains, All-contains_itself, All-filter, All-map, All-weaker, Contains-append_cases, filter_passes}
use Rattle.std.proofs.lemmas.List.Sorted.{Contains-permutation, IsPermutation-filter_both}

module _ {X : Type 0} (p : X → Bool) where
  -- what stays was there
  pub was_there : (xs : List X) (x : X) → Contains (filter p xs) x → Contains xs x
  was_there xs x i = All-contains (Contains xs) (filter p xs) x (All-filter p (Contains xs) xs (All-contains_itself xs)) i

  pub has_passed : (xs : List X) (x : X) → Contains (filter p xs) x → p x ≡ true
  has_passed xs x i = All-contains (λ y. p y ≡ true) (filter p xs) x (filter_passes p xs) i

  -- what passes the test stays
  pub stays : (xs : List X) (x : X) → Contains xs x → p x ≡ true → Contains (filter p xs) x
  stays xs x i h =
      let q : X → Bool = λ y. not (p y) in
      ⊎_elim
      (λ (j : Contains (filter p xs) x). j)
      (λ (j : Contains (filter q xs) x). absurd (false≢true (sym (ap not h) ∙ All-contains (λ y. q y ≡ true) (filter q xs) x (filter_passes q xs) j)))
      (Contains-append_cases (filter p xs) (filter q xs) x (Contains-permutation xs (filter p xs ++ filter q xs) x (IsPermutation-filter_both p q (λ y. refl) xs) i))

module _ {X Y : Type 0} (f : X → Y) where
  -- what is made is made of an element
  pub of_made : (xs : List X) (y : Y) → Contains (map f xs) y → (x : X) × Contains xs x × (f x ≡ y)
  of_made xs y i =
      let P : Y → Type 0 = λ z. (x : X) × Contains xs x × (f x ≡ z) in
      All-contains P (map f xs) y (All-map P f xs (All-weaker (Contains xs) (λ x. P (f x)) (λ x j. (x, j, refl)) xs (All-contains_itself xs))) i

  -- and of each element it is made
  pub made_of : (xs : List X) (x : X) → Contains xs x → Contains (map f xs) (f x)
  made_of xs x i = let e = length-map xs f in let l = i.1 in (i.0, omega arith, get_or-map f xs i.0 x (f x) i.1 ∙ ap f i.2)
