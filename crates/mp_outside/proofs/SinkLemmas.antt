-- What several writes in a row do, and how a count that rose stays risen.
use Rattle.std.proofs.Common.{ℕ, ◌≡◌, ◌≤◌, ◌-◌, ◌^◌, ◌++◌, List, [], Option, Some, None, refl, ap, arith, append_assoc, inl, inr}
use Rattle.std.proofs.lemmas.List.{append-nil}
use Rattle.mp_outside.specs.Fault.{Rose}
use Rattle.mp_outside.specs.Sink.{grown}

-- one write behind another
pub grown-grown : (written : Option (List ℕ)) (a b : List ℕ) → grown (grown written a) b ≡ grown written (a ++ b)
unfolding grown
grown-grown None a b = refl
grown-grown (Some bytes) a b = ap Some (append_assoc bytes a b)

-- a write of nothing
pub grown-nothing : (written : Option (List ℕ)) → grown written [] ≡ written
unfolding grown
grown-nothing None = refl
grown-nothing (Some bytes) = ap Some (append-nil bytes)

-- what is told grows by just these bytes
pub grown-told : (bytes more : List ℕ) → grown (Some bytes) more ≡ Some (bytes ++ more)
unfolding grown
grown-told bytes more = refl

-- a count that rose in the second part of a call rose in the call
pub rose_later : (a b c : ℕ) → a ≤ b → Rose b c → Rose a c
rose_later a b c before (inl more) = inl (omega arith)
rose_later a b c before (inr last) = inr last

rose_at_last : (a b c : ℕ) → a ≤ b → b ≤ c → b ≡ 2 ^ 64 - 1 → Rose a c
rose_at_last a b c before after last = grind arith

-- a count that rose in the first part of a call rose in the call
pub rose_before : (a b c : ℕ) → a ≤ b → b ≤ c → Rose a b → Rose a c
rose_before a b c before after (inl more) = inl (omega arith)
rose_before a b c before after (inr last) = rose_at_last a b c before after last
