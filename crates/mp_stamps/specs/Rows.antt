-- The counts of one location, by time, in pieces of 1024.
use Rattle.std.specs.Prelude.{◌≡◌, ◌≢◌, ◌⊎◌, ◌<◌, ◌≤◌, ◌+◌, ◌*◌, ◌/◌, ◌^◌, ◌++◌, ℕ, Bool, true, false, not, List, [], ◌∷◌, ℤ, pos, get_or, length, replicate, slice_index_or}
use Rattle.std.specs.Ordering.{int_eq}

-- the count at an index, 0 past the end
abbrev pub count_there : List ℤ → ℕ → ℤ
count_there counts i = slice_index_or counts i (pos 0)

-- work is outstanding
abbrev pub is_outstanding : ℤ → Bool
is_outstanding count = not (int_eq count (pos 0))

-- of so many, it is the first that isn't quiet, or their number where all are
pub record IsFirst (IsQuiet : ℕ → Type 0) (number first : ℕ) : Type 0 where
  pub within : first ≤ number
  pub quiet : (k : ℕ) → k < first → IsQuiet k
  pub open_there : first < number → ¬ IsQuiet first

-- it would be, but for another one, which may have changed
pub record IsFirstBut (IsQuiet : ℕ → Type 0) (number first changed : ℕ) : Type 0 where
  pub within : first ≤ number
  pub quiet : (k : ℕ) → k < first → k ≢ changed → IsQuiet k
  pub open_there : first < number → first ≢ changed → ¬ IsQuiet first

-- the count is 0
abbrev pub IsZeroAt : List ℤ → ℕ → Type 0
IsZeroAt counts k = count_there counts k ≡ pos 0

-- the index is that of the first count other than 0, or the end where there is none
abbrev pub IsFirstOpen : List ℤ → ℕ → Type 0
IsFirstOpen counts first = IsFirst (IsZeroAt counts) (length counts) first

-- the first count other than 0 stands at the one index, or there is none and that is the end; and from the other index on there is none
pub record IsSpan (counts : List ℤ) (first end : ℕ) : Type 0 where
  pub first_open : IsFirstOpen counts first
  pub within : end ≤ length counts
  pub rest : (k : ℕ) → end ≤ k → IsZeroAt counts k

-- it would be so, but for a count that may have changed
pub record IsSpanBut (counts : List ℤ) (first end changed : ℕ) : Type 0 where
  pub first_but : IsFirstBut (IsZeroAt counts) (length counts) first changed
  pub within : end ≤ length counts
  pub rest_but : (k : ℕ) → end ≤ k → k ≢ changed → IsZeroAt counts k

-- what contracts see of a piece: whether it is kept, and its counts
pub record PieceState : Type 0 where
  pub kept : Bool
  pub counts : List ℤ

-- the counts of a piece that holds these: zeros, where it holds none
abbrev pub counts_held : List ℤ → List ℤ
counts_held [] = replicate 1024 (pos 0)
counts_held (n ∷ ns) = n ∷ ns

-- all of a piece's counts are held, or none
abbrev pub IsPieceOf : List ℤ → Type 0
IsPieceOf held = (length held ≡ 0) ⊎ (length held ≡ 1024)

-- a piece holds all of its counts or none; where it is kept it has room for them, else for none; and it is known where those other than 0 stand
pub record IsPiece (kept : Bool) (held : List ℤ) (capacity first end : ℕ) : Type 0 where
  pub piece : IsPieceOf held
  pub room : kept ≡ true → 1024 ≤ capacity
  pub freed : kept ≡ false → capacity ≡ 0
  pub span : IsSpan (counts_held held) first end

-- the piece at a place
abbrev pub piece_at : List PieceState → ℕ → PieceState
piece_at pieces b = get_or pieces b (record { kept = true; counts = [] })

-- the counts of pieces, one after the other
abbrev pub joined : List PieceState → List ℤ
joined [] = []
joined (p ∷ ps) = p.counts ++ joined ps

-- each piece has 1024 counts
abbrev pub AreWhole : List PieceState → Type 0
AreWhole pieces = (b : ℕ) → b < length pieces → length (piece_at pieces b).counts ≡ 1024

-- all counts of the piece at a place are 0
abbrev pub IsZeroPiece : List PieceState → ℕ → Type 0
IsZeroPiece pieces b = (k : ℕ) → IsZeroAt (piece_at pieces b).counts k

-- of the pieces between two places memory is given back, and all counts are as they were
pub record GivesBack (from to : ℕ) (old new : List PieceState) : Type 0 where
  pub long : length new ≡ length old
  pub counts : (b : ℕ) → (piece_at new b).counts ≡ (piece_at old b).counts
  pub gone : (b : ℕ) → from ≤ b → b < to → (piece_at new b).kept ≡ false
  pub others : (b : ℕ) → (b < from) ⊎ (to ≤ b) → piece_at new b ≡ piece_at old b

-- so many pieces that are kept, of zeros
abbrev pub AreFresh : ℕ → List PieceState → Type 0
AreFresh count pieces = pieces ≡ replicate count (record { kept = true; counts = replicate 1024 (pos 0) })

-- what contracts see of a row: how many of its pieces were given back, the first ones, and the counts of all pieces
pub record RowState : Type 0 where
  pub given : ℕ
  pub counts : List ℤ

-- the pieces are whole, the first so many were given back and the others are kept; and it is known where the counts other than 0 stand
pub record IsRow (pieces : List PieceState) (given first end : ℕ) : Type 0 where
  pub whole : AreWhole pieces
  pub few : 1024 * length pieces ≤ 2 ^ 63
  pub gone : (b : ℕ) → b < given → (piece_at pieces b).kept ≡ false
  pub kept : (b : ℕ) → given ≤ b → b < length pieces → (piece_at pieces b).kept ≡ true
  pub span : IsSpan (joined pieces) first end

-- as many pieces as have a count for each of so many times, and one more count at least
abbrev pub pieces_of : ℕ → ℕ
pieces_of times = times / 1024 + 1
