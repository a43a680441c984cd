-- A name that is read part by part.
use Rattle.std.proofs.Common.{ℕ, ◌≡◌, ◌+◌, ◌++◌, List, Option, Some, None, IfSome, IsSome, IsSomeAnd, [], take, drop, refl}
use Rattle.std.proofs.Math.Seq.{take-add}
use Rattle.mp_outside.specs.Files.{Files, file_at, IsThere, IsThereWith}

-- the next part behind the first m bytes gives the first m + n
next_part : (found : Option (List ℕ)) (m n : ℕ) (had got : List ℕ) → IsSomeAnd found (λ file. had ≡ take m file) → IfSome found (λ file. got ≡ take n (drop m file)) → IsSomeAnd found (λ file. had ++ got ≡ take (m + n) file)
next_part None m n had got there next = there
next_part (Some file) m n had got there next = rw (take-add, there, next) refl

pub next_part_told : (told : Option Files) (name : List ℕ) (at m n k : ℕ) (had got new : List ℕ) → at ≡ m → k ≡ m + n → new ≡ had ++ got → IsThereWith told name (λ file. had ≡ take m file) → IfSome (file_at told name) (λ file. got ≡ take n (drop at file)) → IsThereWith told name (λ file. new ≡ take k file)
next_part_told told name at m n k had got new here len is there next files told_is =
    let next' = rw (told_is, here) at next in
    rw (len, is) (next_part (files name) m n had got (there files told_is) next')

any_file : (found : Option (List ℕ)) (had : List ℕ) (k : ℕ) → had ≡ [] → k ≡ 0 → IsSome found → IsSomeAnd found (λ file. had ≡ take k file)
any_file None had k none zero there = cc
any_file (Some file) had k none zero there = rw (none, zero) refl

-- of a name that is there nothing has been read at first
pub nothing_read : (told : Option Files) (name had : List ℕ) (k : ℕ) → had ≡ [] → k ≡ 0 → IsThere told name → IsThereWith told name (λ file. had ≡ take k file)
nothing_read told name had k none zero there files is = any_file (files name) had k none zero (there files is)
