-- The prices of sales are within their limit.
use Rattle.std.specs.Prelude.{ℕ, ◌≡◌, ◌≤◌, ◌==◌, ◌&&◌, true, Option, Some, None, List, [], ◌∷◌, All, IfSome, max, nat_le}
use Rattle.std.specs.Option.{option_map, option_to_list, unwrap_or}
use Rattle.std.proofs.Common.{arith}
use Rattle.std.proofs.lemmas.Bool.{and_parts, cond_both, leb-true}
use Rattle.std.proofs.lemmas.List.Elements.{All-nil, All-cons, All-head, All-tail, All-weaker}
use Rattle.mp_names.specs.Limits.{greatest_price}
use Rattle.mp_names.specs.Outlines.{is_before_stop}
use Rattle.mp_model.specs.declared.record.Output.{Output}
use Rattle.mp_model.specs.declared.record.Rec.{Rec}
use Rattle.mp_model.specs.declared.value.Value.{Value}
use Rattle.mp_model.specs.declared.value.Value.TheVariants.{Bid, Sale}
use Rattle.mp_model.specs.Entry.{Entry}
use Rattle.mp_model.specs.Facts.{JobFacts, QueryFacts}
use Rattle.mp_model.specs.Folds.{stage_outputs}
use Rattle.mp_model.specs.Legal.{EventsAreLegal, IsLegalAt}
use Rattle.mp_model.specs.QueryLaws.{RecordIsLegal, SavedFits}
use Rattle.mp_model.specs.Stages.{record_of_output, stage_records}
use Rattle.mp_model.proofs.LegalRecords.{input_records_legal}
use Rattle.mp_model.proofs.Lists.{All-filter_map}
use Rattle.mp_auctions.specs.declared.bidding.Bidding.{Bidding}
use Rattle.mp_auctions.specs.declared.bidding.Lot.{Lot}
use Rattle.mp_auctions.specs.declared.closed.AuctionCell.{AuctionCell}
use Rattle.mp_auctions.specs.Laws.Texts.{best_is_fair}
use Rattle.mp_auctions.specs.Laws.Along.{opening_keeps, outputs_keep}
use Rattle.mp_auctions.specs.Bidding.{after_records, after_value, bids_are_legal, is_closed, sold_at, sold_in}
use Rattle.mp_auctions.specs.Closed.{closed_by, sale_by}
use Rattle.mp_auctions.specs.SaleLaws.{closed_in}
use Rattle.mp_auctions.specs.Sales.{SalesFacts, price_of}

-- a price is within its limit, if it is there
abbrev pub IsFair : Option ℕ → Type 0
IsFair o = IfSome o (λ p. p ≤ greatest_price)

-- the greater of two fair prices is fair
greater_is_fair : (best : Option ℕ) (price : ℕ) → IsFair best → price ≤ greatest_price → max (unwrap_or best 0) price ≤ greatest_price
greater_is_fair None price h legal = omega arith
greater_is_fair (Some best) price h legal = omega (arith, h)

-- legal bids keep the best price within the limit
pub value_keeps : (t time : ℕ) (b : Bidding) (v : Value) → IsLegalAt time v → IsFair b.best → IsFair (after_value t b v).best
value_keeps t time b (Bid auction bidder price) legal h =
    cond_both (is_closed t b.lot) b (record b { best = Some (max (unwrap_or b.best 0) price) }) (λ b. IsFair b.best) (λ _. h) (λ _. greater_is_fair b.best price h legal.2)
value_keeps t time b _ legal h = h

-- also one after the other
records_keep : (t : ℕ) (b : Bidding) (rs : List Rec) → All RecordIsLegal rs → IsFair b.best → IsFair (after_records t b rs).best
records_keep t b [] legal h = h
records_keep t b (r ∷ rs) legal h =
    records_keep t (after_value t b r.value) rs (All-tail RecordIsLegal r rs legal) (value_keeps t r.time b r.value (All-head RecordIsLegal r rs legal).legal h)

-- so is the price of a sale
sold_is_fair : (t : ℕ) (lot : Option Lot) (best : Option ℕ) → IsFair best → IfSome (sold_at t lot best) (λ s. s.1 ≤ greatest_price)
sold_is_fair t None best h = tt
sold_is_fair t (Some lot) None h = tt
sold_is_fair t (Some lot) (Some best) h =
    cond_both (lot.expires == t && nat_le lot.reserve best) (Some (lot, best)) None (λ (o : Option (Lot × ℕ)). IfSome o (λ s. s.1 ≤ greatest_price)) (λ _. h) (λ _. tt)

-- whatever it is of
sale_is_fair : (of : Lot → ℕ) (s : Option (Lot × ℕ)) → IfSome s (λ s. s.1 ≤ greatest_price)
    → All (λ v. IsFair (price_of v)) (option_to_list (option_map (λ s. Sale (of s.0) s.1) s))
sale_is_fair of None h = All-nil (λ (v : Value). IsFair (price_of v))
sale_is_fair of (Some s) h =
    All-cons (λ (v : Value). IsFair (price_of v)) (Sale (of s.0) s.1) [] h (All-nil (λ (v : Value). IsFair (price_of v)))

-- a record has the price of its output, whatever its key is
record_is_fair : (key : Option ℕ) (o : Output) → IsFair (price_of o.value)
    → IfSome (option_map (λ k. record { time = o.time; key = k; tag = o.tag; value = o.value }) key) (λ (r : Rec). IsFair (price_of r.value))
record_is_fair None o h = tt
record_is_fair (Some k) o h = h

-- so is the best price that may be saved
fair_bids : (lot : Option Lot) (best : Option ℕ) → bids_are_legal lot best ≡ true → IsFair best
fair_bids lot None h = tt
fair_bids lot (Some best) h = leb-true best greatest_price (best_is_fair lot best h)

module _ {Kept : Type 0} (of : Lot → ℕ) (sales : List ℕ → SalesFacts Kept) where
  -- the best price of a cell that may be saved is within the limit
  allowed_is_fair : (vs : List ℕ) (k t : ℕ) (cell : AuctionCell Kept) → (closed_by of (sales vs)).allows 0 k t cell ≡ true → IsFair cell.bidding.best
  allowed_is_fair vs k t cell allowed =
      fair_bids cell.bidding.lot cell.bidding.best (and_parts ((sales vs).is_none cell.sales) (bids_are_legal cell.bidding.lot cell.bidding.best) allowed).1

  module _ (job : JobFacts) where
    abbrev table : QueryFacts (AuctionCell Kept)
    table = closed_in of sales job

    given_is_fair : (cell : AuctionCell Kept) (e : Entry) → IsFair cell.bidding.best → All (λ v. IsFair (price_of v)) (table.gives 0 cell e)
    given_is_fair cell e h =
        cond_both (is_before_stop job.until e.time) (option_to_list (sale_by of cell.bidding e)) [] (λ (vs : List Value). All (λ v. IsFair (price_of v)) vs)
        (λ _. sale_is_fair of (sold_in cell.bidding e) (cond_both e.woken (sold_at e.time cell.bidding.lot cell.bidding.best) None (λ (o : Option (Lot × ℕ)). IfSome o (λ s. s.1 ≤ greatest_price)) (λ _. sold_is_fair e.time cell.bidding.lot cell.bidding.best h) (λ _. tt)))
        (λ _. All-nil (λ (v : Value). IsFair (price_of v)))

    -- the prices of sales are within the limit of those of bids
    pub sales_are_fair : EventsAreLegal job.events → SavedFits (closed_by of (sales job.values)) job.from → All (λ r. IsFair (price_of r.value)) (stage_records table job.events 1)
    sales_are_fair legal saved =
        let rs = stage_records table job.events 0 in
        let begins = opening_keeps (closed_by of (sales job.values)) 0 (λ cell. IsFair cell.bidding.best) tt (allowed_is_fair job.values) job.from saved in
        let given = outputs_keep table 0 (λ cell. IsFair cell.bidding.best) RecordIsLegal (λ v. IsFair (price_of v)) begins
        (λ cell e h all. records_keep e.time cell.bidding e.recs all h) given_is_fair rs (input_records_legal table job.events legal) in
        All-filter_map (λ (r : Rec). IsFair (price_of r.value)) (record_of_output table 1) (stage_outputs table 0 rs)
        (All-weaker (λ (o : Output). IsFair (price_of o.value)) (λ (o : Output). IfSome (record_of_output table 1 o) (λ (r : Rec). IsFair (price_of r.value))) (λ o h. record_is_fair (table.key 1 o.time o.value) o h) (stage_outputs table 0 rs) given)
