-- Jobs of few bids, for three workers with four bins.
use Rattle.std.specs.Prelude.{ℕ, [], ◌∷◌}
use Rattle.mp_names.specs.declared.controls.Control.{Control}
use Rattle.mp_names.specs.declared.controls.Shape.{Shape}
use Rattle.mp_model.specs.declared.record.Output.{Output}
use Rattle.mp_model.specs.declared.record.Rec.{Rec}
use Rattle.mp_model.specs.declared.value.Value.TheVariants.{Bid, Row}
use Rattle.mp_job.specs.Parts.{job_of}
use Rattle.mp_model.specs.Facts.{JobFacts}
use Rattle.mp_samples.specs.Bids.{fields_of}
use Rattle.mp_samples.specs.Events.{bid_at, bid_on_seven}

-- three workers with four bins
abbrev pub three_workers : Shape
three_workers = record { workers = 3; bins = 4; stages = 1 }

-- a bid on auction 7 at 5
abbrev pub one_bid : JobFacts
one_bid = job_of [] (bid_at 5 ∷ []) [] three_workers []

-- and this is its record
abbrev pub record_of_bid : Rec
record_of_bid = record { time = 5; key = 7; tag = record { 0 = 0; 1 = 0 }; value = bid_on_seven }

-- the bin of its key goes to worker 2 at 10
abbrev pub to_worker_two : Control
to_worker_two = record { time = 10; stage = 0; bin = 1; worker = 2 }

-- the same job with this control record
abbrev pub one_move : JobFacts
one_move = record one_bid { controls = to_worker_two ∷ [] }

-- bids on auctions 7 and 3 at 5, and on auction 2 at 8
abbrev pub three_bids : JobFacts
three_bids = job_of [] (bid_at 5 ∷ record { time = 5; value = Bid 3 1 100 } ∷ record { time = 8; value = Bid 2 1 100 } ∷ []) [] three_workers []

-- the output of a key's group at a time
abbrev pub row_at : ℕ → ℕ → Output
row_at time key = record { time = time; tag = record { 0 = key; 1 = 0 }; value = Row (fields_of key) }
