-- One item of a list that is seen through a function changes.
use Rattle.std.proofs.Common.{◌≡◌, ℕ, ◌<◌, ◌≤◌, List, [], ◌∷◌, length, min, map, get_or, set, drop, drop_of_length-le, refl, sym, ap, ◌∙◌, ⊎_elim, arith}
use Rattle.std.proofs.lemmas.Bool.{cases_lt}
use Rattle.std.proofs.lemmas.List.{get_or-map, map-set}
use Rattle.mp_machine.specs.Steps.{rest_of}

pub changed_in : {X Y : Type 0} (f : X → Y) (g : Y → Y) (xs : List X) (i : ℕ) (old v : X) (e : Y) → i < length xs → old ≡ get_or xs i old → f v ≡ g (f old) → map f (set xs i v) ≡ set (map f xs) i (g (get_or (map f xs) i e))
changed_in f g xs i old v e l there new = map-set f xs i v ∙ ap (set (map f xs) i) (new ∙ ap g (ap f there ∙ sym (get_or-map f xs i old e l)))

pub without_first : {X : Type 0} (xs : List X) → drop 1 xs ≡ rest_of xs
without_first [] = refl
without_first (x ∷ xs) = refl

-- no more than all can go
pub drop_most : {X : Type 0} (xs : List X) (n : ℕ) → drop (min (length xs) n) xs ≡ drop n xs
drop_most xs n =
    ⊎_elim
    (λ (l : n < length xs). let e : min (length xs) n ≡ n = omega arith in ap (λ (k : ℕ). drop k xs) e)
    (λ (l : length xs ≤ n). let e : min (length xs) n ≡ length xs = omega arith in ap (λ (k : ℕ). drop k xs) e ∙ drop_of_length-le xs (omega arith) ∙ sym (drop_of_length-le xs l))
    (cases_lt n (length xs))
