-- The summary of an answer.
use Rattle.std.specs.Prelude.{ℕ, ◌+◌, ◌*◌, ◌%◌, ◌^◌, ◌==◌, ◌++◌, ◌∷◌, [], List, codes, count_by, fold, length}
use Rattle.std.specs.Fmt.{decimal}

-- the hash of bytes: from 0, for each byte the hash before it times 31 plus the byte, modulo 2^64
abbrev pub hash_of : List ℕ → ℕ
hash_of bytes = fold (λ h byte. (h * 31 + byte) % 2 ^ 64) 0 bytes

-- how many rows an answer has: each ends with a line feed
abbrev pub rows_in : List ℕ → ℕ
rows_in bytes = count_by (λ byte. byte == 10) bytes

-- the line that says how many events there were, and how many rows, how many bytes and which hash their answer has
abbrev pub summary_of : ℕ → List ℕ → List ℕ
summary_of events bytes =
    codes "events " ++ decimal events ++ codes " rows " ++ decimal (rows_in bytes) ++ codes " bytes " ++ decimal (length bytes)
    ++ codes " hash " ++ decimal (hash_of bytes) ++ 10 ∷ []
