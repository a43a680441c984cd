-- The table of the tests' query: each bid makes a record of its auction's key, which wakes the key ten later.
use Rattle.std.specs.Prelude.{ℕ, zero, suc, ◌+◌, Bool, true, false, cond, Option, None, Some, List, [], ◌∷◌}
use Rattle.mp_model.specs.declared.fields.Field.{Field}
use Rattle.mp_model.specs.declared.fields.Field.TheVariants.{Number}
use Rattle.mp_model.specs.declared.record.Rec.{Rec}
use Rattle.mp_model.specs.declared.value.Value.{Value}
use Rattle.mp_model.specs.declared.value.Value.TheVariants.{Bid, Row}
use Rattle.mp_model.specs.Facts.{JobFacts, QueryFacts}
use Rattle.mp_model.specs.Tables.{table_of}

-- the auction of a bid
abbrev pub bid_key : Value → Option ℕ
bid_key (Bid auction bidder price) = Some auction
bid_key _ = None

-- ten later, in stage 0
abbrev pub ten_later : ℕ → Rec → List ℕ
ten_later zero r = (r.time + 10) ∷ []
ten_later (suc j) r = []

-- the fields of a key's row
abbrev pub fields_of : ℕ → List Field
fields_of key = Number key ∷ []

-- the row of a key that has records
abbrev pub row_of : ℕ → List Rec → List Value
row_of key [] = []
row_of key (r ∷ rs) = Row (fields_of key) ∷ []

-- 1 once there are records
abbrev pub mark_of : ℕ → List Rec → ℕ
mark_of cell [] = cell
mark_of cell (r ∷ rs) = 1

-- the table of the query: where it answers, a group that has records gives a row and marks the cell
abbrev pub sample_bids : Bool → QueryFacts ℕ
sample_bids answers = record {
  stages = 1;
  key = λ j t v. bid_key v;
  posts = ten_later;
  fresh = λ j. 0;
  step = λ j cell e. cond answers (mark_of cell e.recs) cell;
  gives = λ j cell e. cond answers (row_of e.key e.recs) [];
  most = λ j cell e. cond answers 1 0;
  fits = λ j cell e. true;
  allows = λ j k t cell. false;
  cell_of = λ j text. 0;
  opening = λ j k. 0;
  waking = λ j. [];
}

-- nothing is saved
abbrev pub text_of : ℕ → ℕ → List ℕ
text_of j cell = []

-- the query whose groups give nothing
abbrev pub waking_bids : QueryFacts ℕ
waking_bids = sample_bids false

-- its table in a job
abbrev pub waking_in : JobFacts → QueryFacts ℕ
waking_in job = table_of (λ values. waking_bids) job

-- the query whose groups give rows
abbrev pub answering_bids : QueryFacts ℕ
answering_bids = sample_bids true

-- its table in a job
abbrev pub answering_in : JobFacts → QueryFacts ℕ
answering_in job = table_of (λ values. answering_bids) job
