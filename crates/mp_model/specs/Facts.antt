-- What a query and a job are, as functions and lists.
use Rattle.std.specs.Prelude.{ℕ, Bool, Option, List}
use Rattle.mp_names.specs.declared.controls.Control.{Control}
use Rattle.mp_names.specs.declared.controls.First.{First}
use Rattle.mp_names.specs.declared.controls.Shape.{Shape}
use Rattle.mp_model.specs.declared.record.Event.{Event}
use Rattle.mp_model.specs.declared.record.Rec.{Rec}
use Rattle.mp_model.specs.declared.value.Value.{Value}
use Rattle.mp_model.specs.Entry.{Entry}

-- The table of a query, each line of it for a stage, from 0
pub record QueryFacts (Cell : Type 0) : Type 0 where
  pub stages : ℕ
  -- the key of a value at a time, if it makes a record
  pub key : ℕ → ℕ → Value → Option ℕ
  -- the later times at which a record wakes its key
  pub posts : ℕ → Rec → List ℕ
  -- the cell of a key that has had no group
  pub fresh : ℕ → Cell
  -- the cell after a group
  pub step : ℕ → Cell → Entry → Cell
  -- what a group gives, in order
  pub gives : ℕ → Cell → Entry → List Value
  -- no fewer than the outputs of a group
  pub most : ℕ → Cell → Entry → ℕ
  -- the sums and counts of a cell with its next group fit their types
  pub fits : ℕ → Cell → Entry → Bool
  -- a cell of this stage and key may stand in a state that is saved at this time
  pub allows : ℕ → ℕ → ℕ → Cell → Bool
  -- the cell that a text says
  pub cell_of : ℕ → List ℕ → Cell
  -- the cell that a key begins with, and the wakes, each a time and a key, that a stage begins with
  pub opening : ℕ → ℕ → Cell
  pub waking : ℕ → List (ℕ × ℕ)

-- a cell of a key of a stage, as its text
pub record SavedCell : Type 0 where
  pub stage : ℕ
  pub key : ℕ
  pub text : List ℕ

-- a key of a stage is to be woken at this time
pub record SavedWake : Type 0 where
  pub stage : ℕ
  pub key : ℕ
  pub time : ℕ

-- a state that is saved at a time: by stage and key, ascending, its cells and its wakes
pub record SavedState : Type 0 where
  pub time : ℕ
  pub cells : List SavedCell
  pub wakes : List SavedWake

-- what is told of a job: the numbers of its query, its events, its control records, its workers, bins and stages, and the first owners that aren't the usual ones
pub record JobFacts : Type 0 where
  pub values : List ℕ
  pub events : List Event
  pub controls : List Control
  pub shape : Shape
  pub firsts : List First
  -- control records go out paced
  pub paced : Bool
  -- the time that the job stops at, and the state that it goes on from
  pub until : Option ℕ
  pub from : Option SavedState
