-- Which of many wakes, each a time and a key or none, comes first.
use Rattle.std.specs.Prelude.{◌≡◌, ◌≢◌, ◌<◌, ◌^◌, ◌*◌, ◌+◌, ◌==◌, ◌&&◌, ◌||◌, ℕ, cond, nat_lt, List, [], ◌∷◌, Option, None, Some, Contains, get_or, length}
use Rattle.mp_postdated.specs.Wakes.{ComesNoLater}

-- of two groups, each a time and a key, the first by time and then by key
abbrev pub earlier_of : Option (ℕ × ℕ) → Option (ℕ × ℕ) → Option (ℕ × ℕ)
earlier_of None g = g
earlier_of (Some f) None = Some f
earlier_of (Some f) (Some g) = cond (nat_lt g.0 f.0 || g.0 == f.0 && nat_lt g.1 f.1) (Some g) (Some f)

-- the first of these wakes by time and then by key
abbrev pub first_among : List (Option (ℕ × ℕ)) → Option (ℕ × ℕ)
first_among [] = None
first_among (w ∷ ws) = earlier_of w (first_among ws)

-- it is one of these wakes and comes no later than each of them; it is none only where they are
pub record IsFirstAmong (ws : List (Option (ℕ × ℕ))) (first : Option (ℕ × ℕ)) : Type 0 where
  pub there : (w : ℕ × ℕ) → first ≡ Some w → Contains ws (Some w)
  pub least : (w : ℕ × ℕ) → Contains ws (Some w) → (v : ℕ × ℕ) × (first ≡ Some v) × ComesNoLater v w

-- an entry of a tree, from 1
abbrev pub entry_at : List (Option (ℕ × ℕ)) → ℕ → Option (ℕ × ℕ)
entry_at tree j = get_or tree j None

-- the entry is the earlier of the two below it
abbrev pub IsWonAt : List (Option (ℕ × ℕ)) → ℕ → Type 0
IsWonAt tree j = entry_at tree j ≡ earlier_of (entry_at tree (2 * j)) (entry_at tree (2 * j + 1))

-- A tournament among so many wakes, the last entries of its tree: each entry in front of them is the earlier of the two below it, but for one
pub record IsTournamentBut (one count : ℕ) (tree : List (Option (ℕ × ℕ))) : Type 0 where
  pub inside : one < count
  pub few : count < 2 ^ 32
  pub size : length tree ≡ 2 * count
  pub won : (j : ℕ) → 0 < j → j < count → j ≢ one → IsWonAt tree j

-- each entry is the earlier of the two below it: there is no entry 0
abbrev pub IsTournament : ℕ → List (Option (ℕ × ℕ)) → Type 0
IsTournament count tree = IsTournamentBut 0 count tree
