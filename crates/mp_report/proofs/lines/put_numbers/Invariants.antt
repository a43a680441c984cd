-- What is written, with the numbers that are left, is all.
use Rattle.std.proofs.Common.{◌≡◌, ◌++◌, ◌∷◌, drop}
use Rattle.std.specs.Fmt.{decimal}
use Rattle.std.specs.List.{flat_map}
use Rattle.mp_report.proofs.lines.put_numbers.Given as goal

abbrev pub invariant-loop-number : goal.invariant-loop-number
invariant-loop-number l =
    l.line.items ++ flat_map (λ n. 32 ∷ decimal n) (drop l.number-index l.numbers) ≡ l.initial.line.items ++ flat_map (λ n. 32 ∷ decimal n) l.numbers
