-- Messages: the names that travel together, and what every message is.
use Rattle.std.specs.Prelude.{◌≡◌, ℕ, ◌<◌, ◌≤◌, Bool, true, ◌&&◌, ◌==◌, List, [], ◌∷◌, filter, flat_map, length, take}
use Rattle.mp_names.specs.declared.names.Name.{Name}
use Rattle.mp_names.specs.Names.{In, IsAscending, ascending, is_rec}
use Rattle.mp_names.specs.Outlines.{Outline, time_of, receiver}
use Rattle.mp_names.specs.Logs.{Log}
use Rattle.mp_names.specs.Frontiers.{is_held}

-- the names of messages, one message after the other
abbrev pub joined : List (List Name) → List Name
joined messages = flat_map (λ xs. xs) messages

-- the names of the oldest message; none, where there is no message
abbrev pub first_message : List (List Name) → List Name
first_message [] = []
first_message (xs ∷ messages) = xs

-- y has the time of x and the receiver of x
abbrev pub goes_with : Outline → Name → Name → Bool
goes_with o x y = time_of o y == time_of o x && receiver o y == receiver o x

-- the records of a stage that the worker sends in one message, where x is the least that it holds: those held ones that go with x, in rank order, as many as travel in one message
abbrev pub bundle_of : Outline → ℕ → Log → ℕ → Name → List Name
bundle_of o w log j x = take o.bundle (filter (λ y. is_held o w log y && goes_with o x y) (ascending (o.records j)))

-- A message has at least one name, and no more than travel in one. All its names have one time and one receiver. If it has several, they are records of one stage, in rank order
pub record IsMessage (o : Outline) (xs : List Name) : Type 0 where
  pub some : 0 < length xs
  pub few : length xs ≤ o.bundle
  pub together : (x y : Name) → In x xs → In y xs → (time_of o y ≡ time_of o x) × (receiver o y ≡ receiver o x)
  pub records : 1 < length xs → (j : ℕ) × ((x : Name) → In x xs → is_rec j x ≡ true)
  pub ordered : IsAscending xs
