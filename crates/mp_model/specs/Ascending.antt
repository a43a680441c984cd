-- Numbers in order, each once.
use Rattle.std.specs.Prelude.{ℕ, ◌==◌, List, [], ◌∷◌, fold, nat_lt, if◌then◌else◌}

-- a number at its place in an ascending list, where it doesn't stand there yet
abbrev pub placed : List ℕ → ℕ → List ℕ
placed [] x = x ∷ []
placed (y ∷ ys) x = if nat_lt x y then x ∷ y ∷ ys else (if x == y then y ∷ ys else y ∷ placed ys x)

-- the numbers of a list, ascending and each once
abbrev pub ascending : List ℕ → List ℕ
ascending xs = fold placed [] xs
