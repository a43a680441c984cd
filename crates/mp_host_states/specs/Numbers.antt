-- Numbers of groups by time, told one group after the other.
use Rattle.std.specs.Prelude.{ℕ, ◌+◌, ◌==◌, cond, fold, map, nat_lt, List, [], ◌∷◌}

-- one more of a time: added to its number, where there is one, else a new number at its place
abbrev pub with_one : List (ℕ × ℕ) → ℕ → List (ℕ × ℕ)
with_one [] t = (t, 1) ∷ []
with_one (n ∷ ns) t = cond (nat_lt t n.0) ((t, 1) ∷ n ∷ ns) (cond (t == n.0) ((n.0, n.1 + 1) ∷ ns) (n ∷ with_one ns t))

-- the numbers of the groups, told one after the other by their times
abbrev pub numbers_of : List (ℕ × ℕ) → List (ℕ × ℕ)
numbers_of groups = fold (λ ns g. with_one ns g.0) [] groups

-- the times of numbers
abbrev pub times : List (ℕ × ℕ) → List ℕ
times ns = map (λ n. n.0) ns
