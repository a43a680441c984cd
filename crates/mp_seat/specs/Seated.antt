-- A seat as the table's seat that it is made of.
use Rattle.std.specs.Prelude.{◌≡◌, ℕ, ◌<◌, List, [], ◌∷◌, length, drop, Option, Some, None, slice_get}
use Rattle.atomic_table.specs.Seated.{TableId}
use Rattle.atomic_table.specs.declared.shared.Seat.{Seat}
use Rattle.mp_seat.specs.declared.view.SeatView.{SeatView}
use Rattle.mp_seat.specs.Seats.{SeatState, LockIdentity}

-- the table of a lock has one word and one slot, and the lock has seats
pub record LockIsSound (id : TableId) (seats : ℕ) : Type 0 where
  pub words : id.words ≡ 1
  pub slots : id.slots ≡ 1
  pub some_seat : 0 < seats

module _ {T R : Type 0} where
  abbrev pub seat_state : Seat (Option T) (SeatView R) → SeatState R
  seat_state s = let v = s.me.0 in
      record { lock = s.table_id; seats = v.seats; number = v.first; row = slice_get v.own 0; version = v.version; taken = v.taken }

  -- it owns one row, and has the slot just while it holds the value
  pub record HasOneRow (s : Seat (Option T) (SeatView R)) : Type 0 where
    pub one : length s.me.0.own ≡ 1
    pub idle : s.me.0.taken ≡ None → s.me.1 ≡ []
    pub holds : (rows : List R) → s.me.0.taken ≡ Some rows → s.me.1 ≡ (0, None) ∷ []

  -- it owns the rows from the place k on of a lock that is opened round these rows and this version
  pub record HasRest (lock : LockIdentity) (rows : List R) (version k : ℕ) (s : Seat (Option T) (SeatView R)) : Type 0 where
    pub of_lock : s.table_id ≡ lock.id
    pub carries : s.me.1 ≡ []
    pub seats_is : s.me.0.seats ≡ lock.seats
    pub first_is : s.me.0.first ≡ k
    pub own_is : s.me.0.own ≡ drop k rows
    pub version_is : s.me.0.version ≡ version
    pub idle : s.me.0.taken ≡ None
