-- Lists of messages, and of their names.
use Rattle.std.specs.Prelude.{◌≡◌, ◌≢◌, ℕ, List, All, AllPairs, flat_map}

-- no name stands twice
abbrev pub Distinct : {N : Type 0} → List N → Type 0
Distinct names = AllPairs (λ x y. x ≢ y) names

-- the names of messages, in order
abbrev pub names_of : {M N : Type 0} → (M → List N) → List M → List N
names_of names messages = flat_map names messages

-- each message goes from this worker to that one
abbrev pub OnEdge : {M : Type 0} → (M → ℕ) → (M → ℕ) → ℕ → ℕ → List M → Type 0
OnEdge message_from message_to from to messages = All (λ m. (message_from m ≡ from) × (message_to m ≡ to)) messages
