-- Parts of what is written piece by piece.
use Rattle.std.proofs.Common.{Result, Ok, Err, OnErr, ℕ, ◌≡◌, ◌+◌, ◌<◌, ◌≤◌, ◌++◌, List, Option, length, take, ap, ◌∙◌}
use Rattle.std.proofs.Math.Seq.{take-append-add}
use Rattle.std.proofs.lemmas.List.{take-append-le}
use Rattle.mp_outside.specs.Sink.{grown}
use Rattle.mp_outside.proofs.SinkLemmas.{grown-grown}

-- a part of a, where more was to come
pub part_of_first : (w now : Option (List ℕ)) (a more : List ℕ) (k : ℕ) → k ≤ length a → now ≡ grown w (take k a) → now ≡ grown w (take k (a ++ more))
part_of_first w now a more k le e = rw (take-append-le k a more le) e

-- all of a, and a part of b
pub part_of_next : (w before now : Option (List ℕ)) (a b : List ℕ) (k : ℕ) → before ≡ grown w a → now ≡ grown before (take k b) → now ≡ grown w (take (length a + k) (a ++ b))
part_of_next w before now a b k first next =
    rw (take-append-add a b k) (next ∙ ap (λ (x : Option (List ℕ)). grown x (take k b)) first ∙ grown-grown w a (take k b))

-- all of a, and then all of b
pub all_of_next : (w before now : Option (List ℕ)) (a b : List ℕ) → before ≡ grown w a → now ≡ grown before b → now ≡ grown w (a ++ b)
all_of_next w before now a b first next = next ∙ ap (λ (x : Option (List ℕ)). grown x b) first ∙ grown-grown w a b

-- a part of a line, at the exit of a call that failed
pub part_at_exit : {T E : Type 0} (r : Result T E) (w now : Option (List ℕ)) (line : List ℕ) (k : ℕ) → k < length line → now ≡ grown w (take k line) → OnErr r ((n : ℕ) × (n < length line) × (now ≡ grown w (take n line)))
part_at_exit (Ok x) w now line k less e = tt
part_at_exit (Err x) w now line k less e = (k, less, e)

-- a part of a file, at the exit of a call that failed
pub some_at_exit : {T E : Type 0} (r : Result T E) (w now : Option (List ℕ)) (file : List ℕ) (k : ℕ) → now ≡ grown w (take k file) → OnErr r ((n : ℕ) × (now ≡ grown w (take n file)))
some_at_exit (Ok x) w now file k e = tt
some_at_exit (Err x) w now file k e = (k, e)
