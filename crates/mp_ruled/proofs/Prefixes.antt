-- Beginnings of lists.
use Rattle.std.proofs.Common.{◌≡◌, List, [], ◌∷◌, ◌++◌, refl, ap, ◌∙◌, sym, append_assoc}
use mathlib.Core.List.{IsPrefix}
use Rattle.std.proofs.lemmas.List.{append-nil}

pub prefix_refl : {A : Type 0} (xs : List A) → IsPrefix xs xs
prefix_refl xs = ([], append-nil xs)

pub prefix_nil : {A : Type 0} (xs : List A) → IsPrefix [] xs
prefix_nil xs = (xs, refl)

pub prefix_more : {A : Type 0} (xs ys zs : List A) → IsPrefix xs ys → IsPrefix xs (ys ++ zs)
prefix_more xs ys zs (left, whole) = (left ++ zs, sym (append_assoc xs left zs) ∙ ap (λ l. l ++ zs) whole)

pub nothing_in_nil : {A : Type 0} (xs ys : List A) → [] ≡ xs ++ ys → (xs ≡ []) × (ys ≡ [])
nothing_in_nil [] ys e = (refl, sym e)
nothing_in_nil (x ∷ xs) ys e = absurd cc
