-- The lines of a report.
use Rattle.std.specs.Prelude.{ℕ, ◌++◌, List, [], ◌∷◌, codes, flat_map}
use Rattle.std.specs.Fmt.{decimal}
use Rattle.mp_names.specs.declared.controls.Move.{Move}

-- a word, then numbers in decimal digits, each after a space, and a line feed
abbrev pub line_of : List ℕ → List ℕ → List ℕ
line_of word numbers = word ++ (flat_map (λ n. 32 ∷ decimal n) numbers ++ 10 ∷ [])

-- `move TIME STAGE BIN FROM TO KEYS`
abbrev pub line_of_move : Move → ℕ → List ℕ
line_of_move m keys = line_of (codes "move") (m.time ∷ m.stage ∷ m.bin ∷ m.from ∷ m.to ∷ keys ∷ [])

-- `worker W GROUPS`
abbrev pub line_of_worker : ℕ → ℕ → List ℕ
line_of_worker w groups = line_of (codes "worker") (w ∷ groups ∷ [])
