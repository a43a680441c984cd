-- What the laws of several queries rest on: no later stage is the first, and how many outputs a group has.
use Rattle.std.specs.Prelude.{ℕ, suc, ◌≡◌, ◌+◌, ◌≤◌, ◌==◌, false, Option, Some, None, List, [], ◌∷◌, length}
use Rattle.std.specs.List.{cons_option, filter_map}
use Rattle.std.specs.Option.{option_to_list}
use Rattle.std.proofs.Common.{arith}
use Rattle.std.proofs.lemmas.Bool.{ne_eqb}

-- no later stage is stage 0
pub not_zero : (j : ℕ) → (suc j == 0) ≡ false
not_zero j = ne_eqb (suc j) 0 (λ e. omega arith)

-- one element at most
pub length_option : {X : Type 0} (o : Option X) → length (option_to_list o) ≤ 1
length_option None = omega arith
length_option (Some x) = omega arith

-- one element more at most
length-cons_option : {X : Type 0} (o : Option X) (xs : List X) → length (cons_option o xs) ≤ length xs + 1
length-cons_option None xs = omega arith
length-cons_option (Some x) xs = omega arith

-- no more than the elements that they are made of
pub length-filter_map : {X Y : Type 0} (f : X → Option Y) (xs : List X) → length (filter_map f xs) ≤ length xs
length-filter_map f [] = omega arith
length-filter_map f (x ∷ xs) = omega (arith, length-cons_option (f x) (filter_map f xs), length-filter_map f xs)
