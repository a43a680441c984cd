-- The front of a file's first line, and what ends its time.
use Rattle.std.specs.Prelude.{ℕ, List, [], ◌∷◌, ◌++◌, codes}
use Rattle.std.specs.Fmt.{decimal}

-- `K|1|QUERY|`
abbrev pub front_of : ℕ → List ℕ
front_of number = codes "K|1|q" ++ (decimal number ++ 124 ∷ [])

-- the byte behind the time: a bar where values follow, else the line feed
abbrev pub byte_behind : List ℕ → ℕ
byte_behind [] = 10
byte_behind (v ∷ vs) = 124
