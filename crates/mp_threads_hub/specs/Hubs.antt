-- What the way of a worker to the board is, as contracts see it: the state of its seat.
use Rattle.std.specs.Prelude.{◌≡◌, ℕ, ◌+◌, ◌*◌, ◌^◌, ◌<◌, ◌≤◌, All, List, Option, None, Some, length, slice_get}
use Rattle.std.specs.Option.{unwrap_or}
use Rattle.mp_names.specs.Logs.{Log, empty_log}
use Rattle.mp_names.specs.Outlines.{Outline}
use Rattle.mp_stamps.specs.declared.seen.Seen.{Seen}
use Rattle.mp_board.specs.declared.causes.Cause.{Cause}
use Rattle.mp_board.specs.declared.causes.Cause.TheVariants.{Write, Memory}
use Rattle.mp_board.specs.Boards.{Posted, ShowsFrontiers}
use Rattle.mp_seat.specs.Seats.{LockIdentity, SeatState}

-- past every version of a board once a cause stands there, even after `Write` and odd after `Memory`: who has seen such a version knows that a worker stopped, and why
abbrev pub after_stop : Option Cause → ℕ → ℕ
after_stop None version = version
after_stop (Some Write) version = 2 ^ 64 + 2 * version
after_stop (Some Memory) version = 2 ^ 64 + 2 * version + 1

-- the version of a board that lies under a lock
abbrev pub shared_version : Posted → ℕ
shared_version board = after_stop board.stopped board.version

-- the seat has seen no stop
abbrev pub SeesNoStop : SeatState Log → Type 0
SeesNoStop seat = seat.version < 2 ^ 64

-- the seat has seen that a worker stopped, the first of them by this cause
abbrev pub SeesCause : Cause → SeatState Log → Type 0
SeesCause cause seat = (version : ℕ) × (seat.version ≡ after_stop (Some cause) version)

-- the seat has seen that a worker stopped
abbrev pub SeesStop : SeatState Log → Type 0
SeesStop seat = (cause : Cause) × SeesCause cause seat

-- the log that the worker posted last
abbrev pub own_row : SeatState Log → Log
own_row seat = unwrap_or seat.row empty_log

-- the seat is this worker's, on a board of the outline's workers
abbrev pub IsSeatOf : Outline → SeatState Log → ℕ → Type 0
IsSeatOf o seat w = (w ≡ seat.number) × (seat.seats ≡ o.workers)

-- the seat after it put back a board on which its row is this log
abbrev pub HasPosted : SeatState Log → Log → SeatState Log → Type 0
HasPosted seat log later = (later ≡ record seat { row = Some log; version = later.version }) × (seat.version ≤ later.version)

-- the seat after it put back a board with the logs that it found
abbrev pub HasLooked : SeatState Log → SeatState Log → Type 0
HasLooked seat later = (later ≡ record seat { version = later.version }) × (seat.version ≤ later.version)

-- what was seen is what posted logs show, of which the seat's row is one, in the version that the seat has seen
abbrev pub ShowsBoard : Outline → SeatState Log → Seen → Type 0
ShowsBoard o seat seen = (seen.version ≡ seat.version) × ((logs : List Log) × ShowsFrontiers o logs seen × (slice_get logs seat.number ≡ seat.row))

-- The way of this worker to a new board of these logs and this version: its seat is of this number among so many, and has the log that stands there and the version
pub record IsNewHub (logs : List Log) (version w : ℕ) (hub : SeatState Log) : Type 0 where
  pub number : hub.number ≡ w
  pub many : hub.seats ≡ length logs
  pub row : hub.row ≡ slice_get logs w
  pub saw : hub.version ≡ version

-- each is that of the worker at its place
abbrev pub AreNewHubs : List Log → ℕ → List (SeatState Log) → Type 0
AreNewHubs logs version hubs = (k : ℕ) (hub : SeatState Log) → slice_get hubs k ≡ Some hub → IsNewHub logs version k hub

-- they are seats of one lock, so that what is posted through one of them is seen through the others
abbrev pub AreOfOneLock : List (SeatState Log) → Type 0
AreOfOneLock hubs = (lock : LockIdentity) × All (λ hub. hub.lock ≡ lock.id) hubs
