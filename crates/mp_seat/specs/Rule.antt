-- The rule of the lock: what its word, its slot and the views of all seats have to do with each other.
-- Word 0 is 0 while the value is at home, and 1 while one seat holds it. The value is in slot 0.
use Rattle.std.specs.Prelude.{◌≡◌, ◌≢◌, ◌⊎◌, ℕ, ◌+◌, ◌<◌, ◌≤◌, List, [], ◌∷◌, ◌++◌, length, Option, Some, None}
use Prim.Native.Nat.{max}
use mathlib.Core.Option.{some, none}
use lib.ListN.{get_elem?}
use Rattle.atomic_table.specs.Table.{State, Me, Step}
use Rattle.mp_seat.specs.declared.view.SeatView.{SeatView}

module _ {R : Type 0} where
  -- the rows that the seat owns stand in these rows
  abbrev pub Stand : List R → SeatView R → Type 0
  Stand rows v = (i : ℕ) (row : R) → get_elem? v.own i ≡ some row → get_elem? rows (v.first + i) ≡ some row

  -- what a seat may know, by the rows, the seat that owns each of them, and the version
  pub record Knows (rows : List R) (owner : ℕ → ℕ) (version : ℕ) (id : ℕ) (v : SeatView R) : Type 0 where
    pub stand : Stand rows v
    pub owns : (i : ℕ) (row : R) → get_elem? v.own i ≡ some row → owner (v.first + i) ≡ id
    pub counts : (i : ℕ) (row : R) → get_elem? v.own i ≡ some row → v.seats ≡ length rows
    pub seen : v.version ≤ version

  -- no seat holds the value
  abbrev pub NobodyHolds : List (SeatView R) → Type 0
  NobodyHolds views = (id : ℕ) (v : SeatView R) → get_elem? views id ≡ some v → v.taken ≡ None

  -- one seat holds the value, which owns a row of it and knows all of it
  pub record OneHolds (rows : List R) (version : ℕ) (views : List (SeatView R)) : Type 0 where
    pub id : ℕ
    pub view : SeatView R
    pub row : R
    pub at : get_elem? views id ≡ some view
    pub owns : get_elem? view.own 0 ≡ some row
    pub taken : view.taken ≡ Some rows
    pub version_is : view.version ≡ version
    pub alone : (other : ℕ) (v : SeatView R) → other ≢ id → get_elem? views other ≡ some v → v.taken ≡ None

  -- a seat that owns a row has seen the present version
  pub record SomeIsLatest (version : ℕ) (views : List (SeatView R)) : Type 0 where
    pub id : ℕ
    pub view : SeatView R
    pub row : R
    pub at : get_elem? views id ≡ some view
    pub owns : get_elem? view.own 0 ≡ some row
    pub version_is : view.version ≡ version

  -- the view of a seat once it has taken a value with these rows and this version
  abbrev pub taking : SeatView R → List R → ℕ → SeatView R
  taking v rows version = record { seats = v.seats; first = v.first; own = v.own; version = version; taken = Some rows }

  -- the view of a seat once it has put a value with this row of its own and this version
  abbrev pub putting : SeatView R → R → ℕ → SeatView R
  putting v row version = record { seats = v.seats; first = v.first; own = row ∷ []; version = version; taken = None }

  abbrev pub first_of : List R → List R
  first_of [] = []
  first_of (row ∷ rows) = row ∷ []

  abbrev pub others_of : List R → List R
  others_of [] = []
  others_of (row ∷ rows) = rows

  -- the view of a new seat, which gets the first row
  abbrev pub first_row : SeatView R → SeatView R
  first_row v = record { seats = v.seats; first = v.first; own = first_of v.own; version = v.version; taken = None }

  -- what is left to the seat that gave it
  abbrev pub other_rows : SeatView R → SeatView R
  other_rows v = record { seats = v.seats; first = v.first + 1; own = others_of v.own; version = v.version; taken = None }

  -- the view of a seat v that takes in the rows of w, which end where those of v begin
  abbrev pub joined : SeatView R → SeatView R → SeatView R
  joined v w = record { seats = v.seats; first = w.first; own = w.own ++ v.own; version = max v.version w.version; taken = None }

  -- what is left of w
  abbrev pub spent : SeatView R
  spent = record { seats = 0; first = 0; own = []; version = 0; taken = None }

module _ {T R : Type 0} (rows : T → List R) (version : T → ℕ) where
  -- the value is at home
  pub record IsHome (rs : List R) (n : ℕ) (s : State (Option T) (SeatView R)) : Type 0 where
    pub free : s.words ≡ 0 ∷ []
    pub value : T
    pub home : s.homes ≡ some (Some value) ∷ []
    pub rows_are : rows value ≡ rs
    pub version_is : version value ≡ n
    pub nobody : NobodyHolds s.views

  -- a seat holds the value
  pub record IsAway (rs : List R) (n : ℕ) (s : State (Option T) (SeatView R)) : Type 0 where
    pub taken : s.words ≡ 1 ∷ []
    pub out : s.homes ≡ none ∷ []
    pub holder : OneHolds rs n s.views

  -- There are rows, each owned by one seat, and a version. Each seat knows its rows as they are, and no later version than this, which some seat has seen. The value has these rows and this version, at home or as it was taken
  pub record KeepsRows (seats : ℕ) (s : State (Option T) (SeatView R)) : Type 0 where
    pub rs : List R
    pub n : ℕ
    pub owner : ℕ → ℕ
    pub many : length rs ≡ seats
    pub knows : (id : ℕ) (v : SeatView R) → get_elem? s.views id ≡ some v → Knows rs owner n id v
    pub latest : SomeIsLatest n s.views
    pub lies : IsHome rs n s ⊎ IsAway rs n s

  -- the rule of a lock that is opened round this value
  abbrev pub rule_of : T → State (Option T) (SeatView R) → Type 0
  rule_of opened = KeepsRows (length (rows opened))

  -- the opening seat owns all rows
  abbrev pub opening_view : T → SeatView R
  opening_view opened = record { seats = length (rows opened); first = 0; own = rows opened; version = version opened; taken = None }

  -- a seat takes a value, in which its rows are as it put them last, and whose version is none that it is past
  pub record TakesValue (m m' : Me (Option T) (SeatView R)) : Type 0 where
    pub value : T
    pub slot : m'.1 ≡ (0, Some value) ∷ m.1
    pub view : m'.0 ≡ taking m.0 (rows value) (version value)
    pub stand : Stand (rows value) m.0
    pub many : length (rows value) ≡ m.0.seats
    pub later : m.0.version ≤ version value

  -- a seat finds the word 0 and takes the value; or it finds that another seat holds the value, and stays as it was
  abbrev pub TakesOrNot : Step (Option T) → Me (Option T) (SeatView R) → ℕ → Me (Option T) (SeatView R) → Type 0
  TakesOrNot step m found m' =
      (found ≡ 0 → TakesValue m m') × (found ≢ 0 → (m' ≡ m) × ((other : ℕ) × (other < m.0.seats) × (other ≢ m.0.first)))

  -- a seat puts the value that it carries
  abbrev pub PutsBack : Step (Option T) → Me (Option T) (SeatView R) → ℕ → Me (Option T) (SeatView R) → Type 0
  PutsBack step m found m' = (value : T) → m.1 ≡ (0, Some value) ∷ []
      → (m'.1 ≡ []) × ((row : R) × (get_elem? (rows value) m.0.first ≡ some row) × (m'.0 ≡ putting m.0 row (version value)))
