-- What a controller has to send, and in which order.
use Rattle.std.specs.Prelude.{◌≡◌, ◌⊎◌, ℕ, ◌<◌, ◌≤◌, Bool, true, false, cond, List, All, Contains, Option, None, Some, length, slice_index_or}
use Rattle.mp_names.specs.declared.controls.Control.{Control}
use Rattle.mp_names.specs.declared.controls.Shape.{Shape}
use Rattle.mp_names.specs.declared.locations.Loc.TheVariants.{Host}
use Rattle.mp_names.specs.declared.names.Name.{Name}
use Rattle.mp_names.specs.declared.names.Name.TheVariants.{Ctrl}
use Rattle.mp_names.specs.declared.pointstamps.ControlCursor.{ControlCursor}
use Rattle.mp_names.specs.Controls.{control_of}
use Rattle.mp_names.specs.Frontiers.{HasPassed}
use Rattle.mp_names.specs.Limits.{most_controls}
use Rattle.mp_stamps.specs.declared.seen.Seen.{Seen}
use Rattle.mp_stamps.specs.Seen.{seen_at}
use Rattle.mp_model.specs.Facts.{JobFacts}
use Rattle.mp_controller.specs.Cursors.{cursor, place_after}

-- its control records; their indices, in the order in which they go out; the place of the next one there and its receiver; whether they go out paced; and how many workers, bins and stages the job has
pub record Controlling : Type 0 where
  pub controls : List Control
  pub order : List ℕ
  pub next : ControlCursor
  pub paced : Bool
  pub shape : Shape

-- the time by which control records go out: in a paced job their own, else one for all
abbrev pub turn_time : Bool → List Control → ℕ → ℕ
turn_time paced controls i = cond paced (control_of controls i).time 0

-- the control record at i goes out before that at k: it has the lesser time, or the same and the lesser index
abbrev pub GoesBefore : Bool → List Control → ℕ → ℕ → Type 0
GoesBefore paced controls i k =
    (turn_time paced controls i < turn_time paced controls k) ⊎ ((turn_time paced controls i ≡ turn_time paced controls k) × (i < k))

-- the index at a place of the order
abbrev pub index_at : List ℕ → ℕ → ℕ
index_at order p = slice_index_or order p 0

-- The order in which control records go out: it has each index once, in a paced job by time and then by index, else by index
pub record IsSendingOrder (paced : Bool) (controls : List Control) (order : List ℕ) : Type 0 where
  pub as_many : length order ≡ length controls
  pub listed : All (λ i. i < length controls) order
  pub all : (i : ℕ) → i < length controls → Contains order i
  pub by_turn : (p k : ℕ) → p < k → k < length order → GoesBefore paced controls (index_at order p) (index_at order k)

-- the index of the next control record
abbrev pub next_index : Controlling → ℕ
next_index c = index_at c.order c.next.index

-- what the next control record is called, as it goes to its receiver
abbrev pub next_name : Controlling → Name
next_name c = Ctrl (next_index c) c.next.receiver

-- its time
abbrev pub next_time : Controlling → ℕ
next_time c = (control_of c.controls (next_index c)).time

-- some control record isn't sent to some worker
abbrev pub IsLeft : Controlling → Type 0
IsLeft c = c.next.index < length c.order

-- the host of every stage is seen to have passed each control time below that of the next control record, so all that moves before it has arrived
abbrev pub EarlierMovesAreOver : Controlling → Seen → Type 0
EarlierMovesAreOver c seen =
    (j i : ℕ) → j < c.shape.stages → i < length c.controls → (control_of c.controls i).time < next_time c → HasPassed (seen_at seen (Host j)) (control_of c.controls i).time

-- The control record of this name goes out now: it is the next, and in a paced job the moves of earlier times are over
pub record GoesNow (c : Controlling) (seen : Seen) (x : Name) : Type 0 where
  pub left : IsLeft c
  pub next : x ≡ next_name c
  pub paced : c.paced ≡ true → EarlierMovesAreOver c seen

-- the controller after the next control record is sent to its receiver
abbrev pub after_sent : Controlling → Controlling
after_sent c = record c { next = place_after c.shape.workers c.next }

-- A controller of a run of the job, paced or not, that has sent nothing
pub record IsNew (paced : Bool) (job : JobFacts) (c : Controlling) : Type 0 where
  pub controls : c.controls ≡ job.controls
  pub order : IsSendingOrder paced job.controls c.order
  pub next : c.next ≡ cursor 0 0
  pub pace : c.paced ≡ paced
  pub shape : c.shape ≡ job.shape

-- the greatest control time below a time, if there is one
abbrev pub IsLatestBelow : List Control → ℕ → Option ℕ → Type 0
IsLatestBelow controls t None = (i : ℕ) → i < length controls → t ≤ (control_of controls i).time
IsLatestBelow controls t (Some u) = (u < t) × ((i : ℕ) × (i < length controls) × ((control_of controls i).time ≡ u)) × ((i : ℕ) → i < length controls → (control_of controls i).time < t → (control_of controls i).time ≤ u)

-- What a controller keeps to: its control records stand in order, and its cursor at one of them, or behind them; in a paced job it has the greatest control time below that of the next one
pub record IsControlling (c : Controlling) (before : Option ℕ) : Type 0 where
  pub order : IsSendingOrder c.paced c.controls c.order
  pub few : length c.controls ≤ most_controls
  pub place : c.next.index ≤ length c.order
  pub receiver : c.next.receiver < c.shape.workers
  pub latest : c.paced ≡ true → IsLeft c → IsLatestBelow c.controls (next_time c) before
  pub no_wait : c.paced ≡ false → before ≡ None
