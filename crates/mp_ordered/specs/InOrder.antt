-- Lists in the order of ranks: of two ranks, lists of numbers, the first comes first as words in a dictionary do.
use Rattle.std.specs.Prelude.{◌≡◌, ℕ, Bool, false, not, cond, Option, List, [], ◌∷◌, AllPairs}
use Rattle.std.specs.List.{find}
use Rattle.mp_names.specs.Names.{is_before}

module _ {T : Type 0} where
  -- no item comes before one that stands in front of it
  abbrev pub IsInOrder : (T → List ℕ) → List T → Type 0
  IsInOrder rank items = AllPairs (λ x y. is_before (rank y) (rank x) ≡ false) items

  -- the list with an item at its place, in front of those of its rank
  abbrev pub put_in_order : (T → List ℕ) → T → List T → List T
  put_in_order rank x [] = x ∷ []
  put_in_order rank x (y ∷ ys) = cond (is_before (rank y) (rank x)) (y ∷ put_in_order rank x ys) (x ∷ y ∷ ys)

  -- an item that stands first goes back to its place
  abbrev pub GoesBack : (T → List ℕ) → Type 0
  GoesBack rank = (x : T) (xs : List T) → IsInOrder rank (x ∷ xs) → put_in_order rank x xs ≡ x ∷ xs

  -- the first item that doesn't come before another
  abbrev pub first_from : (T → List ℕ) → T → List T → Option T
  first_from rank x items = find (λ y. not (is_before (rank y) (rank x))) items

  -- the first of these items passes
  abbrev pub begins : (T → Bool) → List T → Bool
  begins p [] = false
  begins p (x ∷ xs) = p x

-- What contracts see of items in order: the items, and how many more there is room for
pub record InOrder (T : Type 0) : Type 0 where
  pub items : List T
  pub room : ℕ
