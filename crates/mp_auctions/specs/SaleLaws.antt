-- What holds of the sales of closed auctions, whatever is made of them.
use Rattle.std.specs.Prelude.{ℕ, ◌+◌, ◌≤◌, List, length}
use Rattle.mp_model.specs.Facts.{JobFacts, QueryFacts}
use Rattle.mp_model.specs.Folds.{outputs_of}
use Rattle.mp_model.specs.QueryLaws.{OutputsHaveKeys}
use Rattle.mp_model.specs.Stages.{input_records, stage_records}
use Rattle.mp_model.specs.Tables.{opening_wakes, table_of}
use Rattle.mp_auctions.specs.declared.bidding.Lot.{Lot}
use Rattle.mp_auctions.specs.declared.closed.AuctionCell.{AuctionCell}
use Rattle.mp_auctions.specs.Closed.{closed_by}
use Rattle.mp_auctions.specs.Sales.{SalesFacts}

module _ {Kept : Type 0} (of : Lot → ℕ) (sales : List ℕ → SalesFacts Kept) where
  -- each sale has a key in stage 1
  abbrev pub SalesHaveKeys : Type 0
  SalesHaveKeys = (values : List ℕ) → OutputsHaveKeys (closed_by of (sales values))

  -- the table of the query in a job
  abbrev pub closed_in : JobFacts → QueryFacts (AuctionCell Kept)
  closed_in job = table_of (λ values. closed_by of (sales values)) job

  -- the groups of an auction give one sale at most
  abbrev pub AuctionsSellOnce : Type 0
  AuctionsSellOnce =
      (job : JobFacts) (auction : ℕ) → length (outputs_of (closed_in job) 0 (input_records (closed_in job) job.events) auction) ≤ 1

  -- there are no more sales than events, and wakes of the state that the job goes on from
  abbrev pub SalesAreFew : Type 0
  SalesAreFew =
      (job : JobFacts) → length (stage_records (closed_in job) job.events 1) ≤ length job.events + length (opening_wakes job.from 0)
