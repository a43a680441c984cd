-- Lists with the last item in front: they have the same items.
use Rattle.std.proofs.Common.{◌≡◌, ◌∙◌, suc, List, [], ◌∷◌, ◌++◌, AllPairs, Contains, add-one, append_assoc, arith, length, slice_index_or, subst, sym, take}
use Rattle.std.specs.List.Sorted.{IsPermutation}
use Rattle.std.proofs.lemmas.List.{append-nil, take_all, take_more}
use Rattle.std.proofs.lemmas.List.Sorted.{Contains-permutation, IsPermutation-append_right, IsPermutation-cons, IsPermutation-refl, IsPermutation-sym, IsPermutation-to_front}
use Rattle.mp_outline.proofs.Pairs.{Pairs}
use Rattle.mp_host_laws.specs.Moving.{last_first}
use Rattle.mp_host_laws.proofs.Lists.{Pairs-AllPairs}
use Rattle.mp_host_laws.proofs.Parts.{Pairs-one, Pairs-others}

module _ {X : Type 0} where
  -- the last item behind the others
  pub last_behind : (x : X) (xs : List X) → take (length xs) (x ∷ xs) ++ slice_index_or (x ∷ xs) (length xs) x ∷ [] ≡ x ∷ xs
  last_behind x xs =
      let more : take (suc (length xs)) (x ∷ xs) ≡ take (length xs) (x ∷ xs) ++ slice_index_or (x ∷ xs) (length xs) x ∷ [] = rw add-one at (take_more (x ∷ xs) (length xs) x (omega arith)) in
      sym more ∙ take_all (suc (length xs)) (x ∷ xs) (omega arith)

  pub same_items : (xs : List X) → IsPermutation xs (last_first xs)
  same_items [] = IsPermutation-refl []
  same_items (x ∷ xs) = subst (λ (ys : List X). IsPermutation ys (last_first (x ∷ xs))) (last_behind x xs) (IsPermutation-to_front (take (length xs) (x ∷ xs)) (slice_index_or (x ∷ xs) (length xs) x))

  -- what holds both ways between all still does
  Pairs-last_first : (R : X → X → Type 0) → ((y z : X) → R y z → R z y) → (xs : List X) → Pairs R xs → Pairs R (last_first xs)
  Pairs-last_first R turn [] h = h
  Pairs-last_first R turn (x ∷ xs) h =
      let last = slice_index_or (x ∷ xs) (length xs) x in
      let front = take (length xs) (x ∷ xs) in
      let parts = subst (Pairs R) (sym (last_behind x xs)) h in
      ((λ y i. Pairs-one R turn last front [] parts y (subst (λ (ys : List X). Contains ys y) (sym (append-nil front)) i)), subst (Pairs R) (append-nil front) (Pairs-others R last front [] parts))

  Pairs-behind : (R : X → X → Type 0) → ((y z : X) → R y z → R z y) → (front rest : List X) → Pairs R (front ++ rest) → Pairs R (front ++ last_first rest)
  Pairs-behind R turn [] rest h = Pairs-last_first R turn rest h
  Pairs-behind R turn (x ∷ front) rest h = (
    (λ y i. h.0 y (Contains-permutation (front ++ last_first rest) (front ++ rest) y (IsPermutation-sym (front ++ rest) (front ++ last_first rest) (IsPermutation-append_right front rest (last_first rest) (same_items rest))) i)),
    Pairs-behind R turn front rest h.1,
  )

  -- A list with one among others, and the same with the last of those behind it first

  module _ (front : List X) (one : X) (rest xs : List X) (was : xs ≡ front ++ one ∷ rest) where
    same_all : IsPermutation xs (front ++ one ∷ last_first rest)
    same_all = subst (λ (ys : List X). IsPermutation ys (front ++ one ∷ last_first rest)) (sym was) (IsPermutation-append_right front (one ∷ rest) (one ∷ last_first rest) (IsPermutation-cons one rest (last_first rest) (same_items rest)))

    pub still_in : (x : X) → Contains xs x → Contains (front ++ one ∷ last_first rest) x
    still_in x i = Contains-permutation xs (front ++ one ∷ last_first rest) x same_all i

    pub was_in : (x : X) → Contains (front ++ one ∷ last_first rest) x → Contains xs x
    was_in x i = Contains-permutation (front ++ one ∷ last_first rest) xs x (IsPermutation-sym xs (front ++ one ∷ last_first rest) same_all) i

    pub still_apart : (R : X → X → Type 0) → ((y z : X) → R y z → R z y) → AllPairs R xs → Pairs R (front ++ one ∷ last_first rest)
    still_apart R turn h =
        let were = subst (Pairs R) (was ∙ sym (append_assoc front (one ∷ []) rest)) (Pairs-AllPairs R xs h) in
        subst (Pairs R) (append_assoc front (one ∷ []) (last_first rest)) (Pairs-behind R turn (front ++ one ∷ []) rest were)
