-- What is written, with the numbers that are left, is all.
use Rattle.std.proofs.Common.{◌≡◌, ◌++◌, ◌∷◌, drop}
use Rattle.std.specs.Fmt.{decimal}
use Rattle.std.specs.List.{flat_map}
use Rattle.mp_saved.proofs.numbers.put_more.Given as goal

abbrev pub invariant-loop-n : goal.invariant-loop-n
invariant-loop-n l =
    l.out.items ++ flat_map (λ n. 124 ∷ decimal n) (drop l.n-index l.numbers) ≡ l.initial.out.items ++ flat_map (λ n. 124 ∷ decimal n) l.numbers
