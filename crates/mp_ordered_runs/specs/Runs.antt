-- Items in order whose first run stands apart: the first item and those of its kind that follow it.
use Rattle.std.specs.Prelude.{◌≡◌, ℕ, ◌+◌, ◌<◌, ◌≤◌, ◌++◌, Bool, true, false, List, [], ◌∷◌, All, get_or, length, take}
use Rattle.std.specs.List.{prefix_len}
use Rattle.mp_ordered.specs.InOrder.{InOrder, IsInOrder, begins, put_in_order}

module _ {T : Type 0} where
  -- the first item and those that follow it, up to the first of another kind
  abbrev pub first_run : (T → T → Bool) → List T → List T
  first_run same [] = []
  first_run same (x ∷ xs) = x ∷ take (prefix_len (same x) xs) xs

  -- these items are of one kind
  abbrev pub IsOneKind : (T → T → Bool) → List T → Type 0
  IsOneKind same [] = Unit {0}
  IsOneKind same (x ∷ xs) = All (λ y. same x y ≡ true) xs

  -- the next of the others is of the run's kind, or there is no run
  abbrev pub continues : (T → T → Bool) → List T → List T → Bool
  continues same [] rest = begins (λ _. true) rest
  continues same (x ∷ xs) rest = begins (same x) rest

module _ {T : Type 0} (rank : T → List ℕ) (same : T → T → Bool) (x : T) (run : List T) where
  -- the item is of the run's kind, doesn't come first, and its place is in the run
  pub record GoesIntoRun (rest : List T) (at : ℕ) : Type 0 where
    pub some : 0 < at
    pub kind : (d : T) → same (get_or run 0 d) x ≡ true
    pub place : put_in_order rank x (run ++ rest) ≡ put_in_order rank x run ++ rest

  -- the item is of another kind, and its place is behind the run
  pub record GoesBehindRun : Type 0 where
    pub some : 0 < length run
    pub other : (d : T) → same (get_or run 0 d) x ≡ false
    pub place : (rest : List T) → put_in_order rank x (run ++ rest) ≡ run ++ put_in_order rank x rest

-- The first run, for which there is so much memory, and the items that follow it
pub record IsRun {T : Type 0} (rank : T → List ℕ) (same : T → T → Bool) (run : List T) (most : ℕ) (rest : InOrder T) : Type 0 where
  pub order : IsInOrder rank (run ++ rest.items)
  pub kind : IsOneKind same run
  pub ends : continues same run rest.items ≡ false
  pub room : length run ≤ rest.room
  pub memory : length rest.items + rest.room ≤ most
