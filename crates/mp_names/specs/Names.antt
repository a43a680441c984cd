-- Names as values: when two are the same, which comes first, and lists of names as sets.
use Rattle.std.specs.Prelude.{◌≡◌, ℕ, zero, suc, ◌<◌, ◌⊎◌, Bool, true, false, cond, ◌&&◌, ◌||◌, ◌==◌, nat_lt, List, [], ◌∷◌, ◌++◌}
use Rattle.mp_names.specs.declared.names.Name.{Name}
use Rattle.mp_names.specs.declared.names.Name.TheVariants.{Ctrl, Rec, Packet, Row, Group, Settled, Written}

-- the two names are one
abbrev pub same_name : Name → Name → Bool
same_name (Ctrl i v) (Ctrl j w) = i == j && v == w
same_name (Rec i s k a) (Rec j t l b) = i == j && (s == t && (k == l && (a.0 == b.0 && a.1 == b.1)))
same_name (Packet i a s) (Packet j b t) = i == j && (a == b && s == t)
same_name (Row s a) (Row t b) = s == t && (a.0 == b.0 && a.1 == b.1)
same_name (Group i s k) (Group j t l) = i == j && (s == t && k == l)
same_name (Settled i s) (Settled j t) = i == j && s == t
same_name (Written s) (Written t) = s == t
same_name _ _ = false

-- the name stands in the list
abbrev pub has : List Name → Name → Bool
has [] x = false
has (y ∷ ys) x = same_name y x || has ys x

abbrev pub In : Name → List Name → Type 0
In x xs = has xs x ≡ true

-- each name stands once
abbrev pub Distinct : List Name → Type 0
Distinct [] = Unit {0}
Distinct (x ∷ xs) = (has xs x ≡ false) × Distinct xs

-- the second list begins with the first
abbrev pub IsPrefix : {X : Type 0} → List X → List X → Type 0
IsPrefix {X} xs ys = (rest : List X) × (xs ++ rest ≡ ys)

-- the lists that f gives for the numbers below n, one after the other
abbrev pub joined_below : {X : Type 0} → ℕ → (ℕ → List X) → List X
joined_below zero f = []
joined_below (suc n) f = joined_below n f ++ f n

-- what decides which of two names comes first: their kind; then the time and the stage, and then the bin, the key or the tag; of a control record the index and the receiver
abbrev pub rank_of : Name → List ℕ
rank_of (Ctrl i v) = 0 ∷ i ∷ v ∷ []
rank_of (Rec j t k g) = 1 ∷ t ∷ j ∷ g.0 ∷ g.1 ∷ k ∷ []
rank_of (Packet j b t) = 2 ∷ t ∷ j ∷ b ∷ []
rank_of (Row t g) = 3 ∷ t ∷ g.0 ∷ g.1 ∷ []
rank_of (Group j t k) = 4 ∷ t ∷ j ∷ k ∷ []
rank_of (Settled j t) = 5 ∷ t ∷ j ∷ []
rank_of (Written t) = 6 ∷ t ∷ []

-- the first list of numbers comes first, as words in a dictionary do
abbrev pub IsBefore : List ℕ → List ℕ → Type 0
IsBefore xs [] = ⊥
IsBefore [] (y ∷ ys) = Unit {0}
IsBefore (x ∷ xs) (y ∷ ys) = (x < y) ⊎ ((x ≡ y) × IsBefore xs ys)

-- the same as a test
abbrev pub is_before : List ℕ → List ℕ → Bool
is_before xs [] = false
is_before [] (y ∷ ys) = true
is_before (x ∷ xs) (y ∷ ys) = nat_lt x y || x == y && is_before xs ys

-- the first name comes before the second
abbrev pub Less : Name → Name → Type 0
Less x y = IsBefore (rank_of x) (rank_of y)

-- each name comes before all that follow it
abbrev pub IsAscending : List Name → Type 0
IsAscending [] = Unit {0}
IsAscending (x ∷ xs) = ((y : Name) → In y xs → Less x y) × IsAscending xs

-- the name at its place in an ascending list, where it doesn't stand there yet
abbrev pub placed : Name → List Name → List Name
placed x [] = x ∷ []
placed x (y ∷ ys) = cond (same_name x y) (y ∷ ys) (cond (is_before (rank_of x) (rank_of y)) (x ∷ y ∷ ys) (y ∷ placed x ys))

-- the names of a list, ascending and each once
unfoldable pub ascending : List Name → List Name
ascending [] = []
ascending (x ∷ xs) = placed x (ascending xs)

-- x is the least name of which P holds
abbrev pub IsLeast : (Name → Type 0) → Name → Type 0
IsLeast P x = P x × ((y : Name) → P y → Less y x → ⊥)

-- the kinds of names, those of stage j where there are stages

abbrev pub is_ctrl : Name → Bool
is_ctrl (Ctrl i v) = true
is_ctrl _ = false

abbrev pub is_rec : ℕ → Name → Bool
is_rec j (Rec i t k g) = i == j
is_rec j _ = false

abbrev pub is_packet : ℕ → Name → Bool
is_packet j (Packet i b t) = i == j
is_packet j _ = false

abbrev pub is_row : Name → Bool
is_row (Row t g) = true
is_row _ = false

abbrev pub is_group : ℕ → Name → Bool
is_group j (Group i t k) = i == j
is_group j _ = false

abbrev pub is_settled : ℕ → Name → Bool
is_settled j (Settled i t) = i == j
is_settled j _ = false

abbrev pub is_written : Name → Bool
is_written (Written t) = true
is_written _ = false
