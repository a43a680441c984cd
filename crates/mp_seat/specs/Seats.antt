-- Seats and their lock, as contracts see them.
use Rattle.std.specs.Prelude.{◌≡◌, ◌≢◌, ℕ, ◌<◌, List, [], ◌∷◌, length, Option, Some, None, slice_get, slice_set}
use Prim.Native.Nat.{max}
use Rattle.atomic_table.specs.Seated.{TableId}

-- which lock it is, and how many seats it has
pub record LockIdentity : Type 0 where
  pub id : TableId
  pub seats : ℕ

-- the lock that it is a seat of and how many seats that has, its number, its row as it put it last, the version that it has seen, and, while it holds the value, all rows as it took them
pub record SeatState (R : Type 0) : Type 0 where
  pub lock : TableId
  pub seats : ℕ
  pub number : ℕ
  pub row : Option R
  pub version : ℕ
  pub taken : Option (List R)

module _ {R : Type 0} where
  -- a seat of this lock, which doesn't hold the value
  abbrev pub IsIdle : LockIdentity → SeatState R → Type 0
  IsIdle lock seat = (seat.lock ≡ lock.id) × (seat.taken ≡ None)

  -- the seat once it has taken a value with these rows and this version
  abbrev pub holding : SeatState R → List R → ℕ → SeatState R
  holding seat rows version = record seat { version = version; taken = Some rows }

  -- the seat once it has put a value with these rows and this version
  abbrev pub resting : SeatState R → List R → ℕ → SeatState R
  resting seat rows version = record seat { row = slice_get rows seat.number; version = version; taken = None }

  -- there is another seat
  abbrev pub HasOthers : SeatState R → Type 0
  HasOthers seat = (other : ℕ) × (other < seat.seats) × (other ≢ seat.number)

  -- the seat holds the value, and these rows are those that it took, but for its own
  abbrev pub ChangesOwnRow : SeatState R → List R → Type 0
  ChangesOwnRow seat rows = (before : List R) × (row : R) × (seat.taken ≡ Some before) × (rows ≡ slice_set before seat.number row)

  -- the seat of this number where a lock is opened round these rows and this version
  abbrev pub new_seat : LockIdentity → List R → ℕ → ℕ → SeatState R
  new_seat lock rows version number =
      record { lock = lock.id; seats = lock.seats; number = number; row = slice_get rows number; version = version; taken = None }

  -- each seat is new, and stands at its number
  abbrev pub AreNew : LockIdentity → List R → ℕ → List (SeatState R) → Type 0
  AreNew lock rows version seats = (k : ℕ) (seat : SeatState R) → slice_get seats k ≡ Some seat → seat ≡ new_seat lock rows version k

  -- each seat is an idle one of this lock, and stands at its number
  abbrev pub AreInOrder : LockIdentity → List (SeatState R) → Type 0
  AreInOrder lock seats = (k : ℕ) (seat : SeatState R) → slice_get seats k ≡ Some seat → IsIdle lock seat × (seat.number ≡ k)

  -- all seats of this lock, idle, each once, in any order: as many as it has, and one of each number
  pub record AreAll (lock : LockIdentity) (seats : List (SeatState R)) : Type 0 where
    pub idle : (k : ℕ) (seat : SeatState R) → slice_get seats k ≡ Some seat → IsIdle lock seat
    pub many : length seats ≡ lock.seats
    pub each : (number : ℕ) → number < lock.seats → (k : ℕ) × (seat : SeatState R) × (slice_get seats k ≡ Some seat) × (seat.number ≡ number)

  -- the row of each seat stands at its number in these rows
  abbrev pub HaveRows : List R → List (SeatState R) → Type 0
  HaveRows rows seats = (k : ℕ) (seat : SeatState R) → slice_get seats k ≡ Some seat → slice_get rows seat.number ≡ seat.row

  -- the greatest version that one of the seats has seen
  abbrev pub latest_version : List (SeatState R) → ℕ
  latest_version [] = 0
  latest_version (seat ∷ seats) = max seat.version (latest_version seats)
