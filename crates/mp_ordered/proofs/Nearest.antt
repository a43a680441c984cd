-- The last item in front of a cut, known by itself and the one that follows it.
use Rattle.std.proofs.Common.{◌≡◌, ℕ, suc, ◌<◌, Bool, true, false, Option, None, Some, List, length, get_or, ap, ◌∙◌, arith}
use Rattle.std.specs.Option.{IfNone, IfSome}
use Rattle.std.specs.Prelude.{slice_get}
use Rattle.std.specs.List.{prefix_len}
use Rattle.std.specs.List.Sorted.{IsPartitionedBy}
use Rattle.std.proofs.lemmas.List.Sums.{prefix_len_is}
use Rattle.mp_ordered.proofs.Placing.{read_at}

pub ends_at : {T : Type 0} (p : T → Bool) (xs : List T) (i j : ℕ) (x : T) → IsPartitionedBy p xs → slice_get xs i ≡ Some x → p x ≡ true → j ≡ suc i
    → ((d : T) → j < length xs → p (get_or xs j d) ≡ false) → prefix_len p xs ≡ j
ends_at p xs i j x h e t next last =
    let read = read_at xs i x e in
    prefix_len_is p xs j x (omega (arith, read.0, next)) (λ k l. h k i x (omega (arith, next)) read.0 (ap p (read.1 x) ∙ t)) (λ l. last x l)

pub some_or : {X : Type 0} (o : Option X) (A : Type 0) → A → IfSome o (λ _. A)
some_or None A a = tt
some_or (Some x) A a = a

pub none_then : {X : Type 0} (o : Option X) (A B : Type 0) → (A → B) → IfNone o A → IfNone o B
none_then None A B f a = f a
none_then (Some x) A B f a = tt
