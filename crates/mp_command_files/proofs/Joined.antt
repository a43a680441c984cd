-- Pieces joined one after the other.
use Rattle.std.proofs.Common.{ℕ, suc, ◌≡◌, ◌+◌, ◌<◌, ◌≤◌, ◌++◌, List, [], ◌∷◌, length, take, drop, get_or, sym, ap, ◌∙◌, append-nil, add-one, arith}
use Rattle.std.specs.List.{flat_map}
use Rattle.std.proofs.Math.Seq.{take-append-add, take-length, take-suc, drop-cons}
use Rattle.std.proofs.lemmas.List.{length-append, take-append-le, take-append-drop}
use Rattle.std.proofs.lemmas.Grind.{flat_map-append}

module _ {X : Type 0} (f : X → List ℕ) where
  -- the pieces before one, that one, and those after it
  pub joined-split : (xs : List X) (i : ℕ) (x : X) → i < length xs → x ≡ get_or xs i x → flat_map f xs ≡ flat_map f (take i xs) ++ (f x ++ flat_map f (drop (i + 1) xs))
  joined-split xs i x lt is =
      let rest : drop i xs ≡ x ∷ drop (i + 1) xs = rw add-one (drop-cons xs i x lt ∙ ap (λ (y : X). y ∷ drop (suc i) xs) (sym is)) in
      let whole : xs ≡ take i xs ++ (x ∷ drop (i + 1) xs) = sym (take-append-drop i xs) ∙ ap (λ (ys : List X). take i xs ++ ys) rest in
      ap (flat_map f) whole ∙ flat_map-append f (take i xs) (x ∷ drop (i + 1) xs)

  -- the pieces before one
  pub joined-before : (xs : List X) (i : ℕ) → flat_map f (take i xs) ≡ take (length (flat_map f (take i xs))) (flat_map f xs)
  joined-before xs i =
      let done = flat_map f (take i xs) in
      let whole : flat_map f xs ≡ done ++ flat_map f (drop i xs) = ap (flat_map f) (sym (take-append-drop i xs)) ∙ flat_map-append f (take i xs) (drop i xs) in
      let le : length done ≤ length done = omega arith in
      sym (ap (take (length done)) whole ∙ take-append-le (length done) done (flat_map f (drop i xs)) le ∙ take-length done)

  -- one more piece
  pub joined-take : (xs : List X) (i : ℕ) (x : X) → i < length xs → x ≡ get_or xs i x → flat_map f (take (i + 1) xs) ≡ flat_map f (take i xs) ++ f x
  joined-take xs i x lt is =
      let more : take (i + 1) xs ≡ take i xs ++ x ∷ [] = rw add-one (take-suc xs i x lt ∙ ap (λ (y : X). take i xs ++ y ∷ []) (sym is)) in
      ap (flat_map f) more ∙ flat_map-append f (take i xs) (x ∷ []) ∙ ap (λ (ys : List ℕ). flat_map f (take i xs) ++ ys) (append-nil (f x))

  -- a part of a piece, after the pieces before it
  pub joined-part : (xs : List X) (i : ℕ) (x : X) (k : ℕ) → i < length xs → x ≡ get_or xs i x → k < length (f x) → flat_map f (take i xs) ++ take k (f x) ≡ take (length (flat_map f (take i xs)) + k) (flat_map f xs)
  joined-part xs i x k lt is less =
      let done = flat_map f (take i xs) in
      let le : k ≤ length (f x) = omega (arith, less) in
      sym (ap (λ (ys : List ℕ). take (length done + k) ys) (joined-split xs i x lt is) ∙ take-append-add done (f x ++ flat_map f (drop (i + 1) xs)) k ∙ ap (λ (ys : List ℕ). done ++ ys) (take-append-le k (f x) (flat_map f (drop (i + 1) xs)) le))

  -- a piece that isn't whole leaves the line unfinished
  pub joined-less : (xs : List X) (i : ℕ) (x : X) (k : ℕ) → i < length xs → x ≡ get_or xs i x → k < length (f x) → length (flat_map f (take i xs)) + k < length (flat_map f xs)
  joined-less xs i x k lt is less =
      let done = flat_map f (take i xs) in
      let rest = flat_map f (drop (i + 1) xs) in
      let whole : length (flat_map f xs) ≡ length done + (length (f x) + length rest) =
      ap length (joined-split xs i x lt is) ∙ length-append done (f x ++ rest) ∙ ap (λ (n : ℕ). length done + n) (length-append (f x) rest) in
      omega (arith, whole, less)
