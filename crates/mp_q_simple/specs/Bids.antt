-- The table that q1 and q2 have in common.
use Rattle.std.specs.Prelude.{ℕ, Bool, false, Option, Some, None, List, [], length}
use Rattle.std.specs.List.{filter_map, list_all}
use Rattle.mp_model.specs.declared.record.Rec.{Rec}
use Rattle.mp_model.specs.declared.value.Value.{Value}
use Rattle.mp_model.specs.declared.value.Value.TheVariants.{Bid}
use Rattle.mp_model.specs.Entry.{Entry}
use Rattle.mp_model.specs.Facts.{QueryFacts}
use Rattle.mp_q_simple.specs.declared.bids.Nothing.{Nothing}

-- which row each value has, and whether its numbers fit 64 bits
pub record RowFacts : Type 0 where
  pub row : Value → Option Value
  pub fits : Value → Bool

-- the key of a bid is its auction; other values make no record
abbrev pub key_of : Value → Option ℕ
key_of (Bid auction bidder price) = Some auction
key_of _ = None

-- no record wakes its key
abbrev pub posts_of : Rec → List ℕ
posts_of r = []

-- the cell holds nothing
abbrev pub fresh_cell : Nothing
fresh_cell = record {}

-- a group leaves the cell as it is
abbrev pub step_of : Nothing → Entry → Nothing
step_of cell e = cell

-- the rows of the records that have one, in order
abbrev pub rows_of : (Value → Option Value) → List Rec → List Value
rows_of row rs = filter_map (λ r. row r.value) rs

-- the numbers of all their rows fit
abbrev pub all_fit : (Value → Bool) → List Rec → Bool
all_fit fits rs = list_all (λ r. fits r.value) rs

-- the table of a query that keeps nothing, and gives at most one row for each bid
abbrev pub bids_by : RowFacts → QueryFacts Nothing
bids_by rows = record {
  stages = 1;
  key = λ j t v. key_of v;
  posts = λ j r. posts_of r;
  fresh = λ j. fresh_cell;
  step = λ j cell e. step_of cell e;
  gives = λ j cell e. rows_of rows.row e.recs;
  most = λ j cell e. length e.recs;
  fits = λ j cell e. all_fit rows.fits e.recs;
  allows = λ j k t cell. false;
  cell_of = λ j text. fresh_cell;
  opening = λ j k. fresh_cell;
  waking = λ j. [];
}

-- nothing is saved
abbrev pub text_of : ℕ → Nothing → List ℕ
text_of j cell = []
