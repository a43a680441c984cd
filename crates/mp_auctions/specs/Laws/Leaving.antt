-- What a query on closed auctions leaves of the events of a file may be saved.
use Rattle.std.specs.Prelude.{ℕ, zero, suc, ◌≡◌, ◌≢◌, ◌+◌, ◌≤◌, ◌==◌, ◌&&◌, ◌++◌, Bool, true, false, cond, All, IfSome, Option, None, Some, List, [], ◌∷◌, fold, length, max, nat_le, refl}
use Rattle.std.specs.List.{flat_map}
use Rattle.std.specs.Option.{option_map, option_to_list, unwrap_or}
use Rattle.std.proofs.Common.{◌∙◌, ap, append-nil, arith, length-append, subst, sym, ⊎_elim}
use Rattle.std.proofs.lemmas.Bool.{and_from, and_right, cond_both, le-leb}
use Rattle.std.proofs.lemmas.List.Concat.{flat_map-append}
use Rattle.std.proofs.lemmas.List.Elements.{All-cons, All-head, All-nil, All-push, All-tail, All-weaker}
use Rattle.std.proofs.lemmas.List.Sums.{fold-append}
use Rattle.std.proofs.lemmas.Option.{none-some, same_Some}
use Rattle.mp_names.specs.Limits.{greatest_id, greatest_price, greatest_time, most_events}
use Rattle.mp_model.specs.declared.record.Event.{Event}
use Rattle.mp_model.specs.declared.record.Output.{Output}
use Rattle.mp_model.specs.declared.record.Rec.{Rec}
use Rattle.mp_model.specs.declared.value.Value.{Value}
use Rattle.mp_model.specs.declared.value.Value.TheVariants.{Auction, Bid, Sale}
use Rattle.mp_model.specs.Entry.{Entry}
use Rattle.mp_model.specs.Facts.{JobFacts, QueryFacts}
use Rattle.mp_model.specs.Folds.{cell_before, stage_outputs}
use Rattle.mp_model.specs.Legal.{EventIsLegal, EventsAreLegal, IsLegalAt}
use Rattle.mp_model.specs.QueryLaws.{RecordIsLegal}
use Rattle.mp_model.specs.Stages.{stage_records}
use Rattle.mp_model.specs.Tables.{table_of}
use Rattle.mp_model.proofs.LegalRecords.{input_records_legal}
use Rattle.mp_model.proofs.Lists.{All-filter_map}
use Rattle.mp_model.proofs.Tables.{length-filter_map}
use Rattle.mp_saved.specs.Leaving.{CellsMayBeSaved, KeysAreIds, LeavesWhatMayBeSaved}
use Rattle.mp_saved.proofs.Along.{cell_reaches}
use Rattle.mp_saved.proofs.Kept.{inputs_keep, next_keep}
use Rattle.mp_auctions.specs.declared.bidding.Bidding.{Bidding}
use Rattle.mp_auctions.specs.declared.bidding.Lot.{Lot}
use Rattle.mp_auctions.specs.declared.closed.AuctionCell.{AuctionCell}
use Rattle.mp_auctions.specs.Bidding.{after_records, after_value, bids_are_legal, has_none, is_closed, lot_is_legal, no_bids, sold_at, sold_in}
use Rattle.mp_auctions.specs.Closed.{auction_of, closed_by, fresh_cell, key_of, party_of}
use Rattle.mp_auctions.specs.Laws.Along.{outputs_keep}
use Rattle.mp_auctions.specs.Laws.FairPrices.{IsFair, value_keeps}
use Rattle.mp_auctions.specs.Laws.Selling.{few_sales}
use Rattle.mp_auctions.specs.Sales.{AreFairPrices, KeptMayBeSaved, PartiesAreIds, SalesFacts, price_of, prices_of}

-- Lots

-- a lot is within its limits, if there is one
abbrev IsGoodLot : Option Lot → Type 0
IsGoodLot None = Unit {0}
IsGoodLot (Some lot) = lot_is_legal lot ≡ true

record IsGoodBidding (b : Bidding) : Type 0 where
  lot : IsGoodLot b.lot
  best : IsFair b.best

first_lot : (old : Option Lot) (lot : Lot) → IsGoodLot old → lot_is_legal lot ≡ true → lot_is_legal (unwrap_or old lot) ≡ true
first_lot None lot h k = k
first_lot (Some old) lot h k = h

lot_kept : (t time : ℕ) (b : Bidding) (v : Value) → IsLegalAt time v → IsGoodLot b.lot → IsGoodLot (after_value t b v).lot
lot_kept t time b (Auction id seller category reserve expires) legal h =
    let lot : Lot = record { seller = seller; category = category; reserve = reserve; expires = expires } in
    let ids = and_from (nat_le seller greatest_id) (nat_le category greatest_id) (le-leb seller greatest_id legal.1) (le-leb category greatest_id legal.2) in
    let three = and_from (nat_le seller greatest_id && nat_le category greatest_id) (nat_le reserve greatest_price) ids (le-leb reserve greatest_price legal.3) in
    first_lot b.lot lot h (and_from (nat_le seller greatest_id && nat_le category greatest_id && nat_le reserve greatest_price) (nat_le expires greatest_time) three (le-leb expires greatest_time legal.5))
lot_kept t time b (Bid auction bidder price) legal h = by_test (is_closed t b.lot)
  where
    by_test : (closed : Bool) → IsGoodLot (cond closed b (record b { best = Some (max (unwrap_or b.best 0) price) })).lot
    by_test true = h
    by_test false = h
lot_kept t time b _ legal h = h

records_kept : (t : ℕ) (b : Bidding) (rs : List Rec) → All RecordIsLegal rs → IsGoodBidding b → IsGoodBidding (after_records t b rs)
records_kept t b [] legal h = h
records_kept t b (r ∷ rs) legal h =
    let first = All-head RecordIsLegal r rs legal in
    records_kept t (after_value t b r.value) rs (All-tail RecordIsLegal r rs legal) (record { lot = lot_kept t r.time b r.value first.legal h.lot; best = value_keeps t r.time b r.value first.legal h.best })

bidding_saved : (lot : Option Lot) (best : Option ℕ) → IsGoodLot lot → IsFair best → (lot ≡ None → best ≡ None → ⊥) → bids_are_legal lot best ≡ true
bidding_saved None None h k some = absurd (some refl refl)
bidding_saved None (Some best) h k some = le-leb best greatest_price k
bidding_saved (Some lot) None h k some = h
bidding_saved (Some lot) (Some best) h k some = and_from (lot_is_legal lot) (nat_le best greatest_price) h (le-leb best greatest_price k)

-- Sales

-- its party is an id, and its price within the limit
record IsGoodSale (v : Value) : Type 0 where
  party : IfSome (party_of v) (λ k. k ≤ greatest_id)
  price : IsFair (price_of v)

record IsGoodRecord (r : Rec) : Type 0 where
  key : r.key ≤ greatest_id
  price : IsFair (price_of r.value)

-- a lot is within its limits, and so is its price, if it is sold
abbrev IsGoodSold : Option (Lot × ℕ) → Type 0
IsGoodSold o = IfSome o (λ s. (lot_is_legal s.0 ≡ true) × (s.1 ≤ greatest_price))

-- a lot that is sold is one that was kept, and its price the best one
sold_good : (t : ℕ) (lot : Option Lot) (best : Option ℕ) → IsGoodLot lot → IsFair best → IsGoodSold (sold_at t lot best)
sold_good t None best h k = tt
sold_good t (Some lot) None h k = tt
sold_good t (Some lot) (Some best) h k =
    cond_both (lot.expires == t && nat_le lot.reserve best) (Some (lot, best)) None IsGoodSold (λ _. (h, k)) (λ _. tt)

sale_good : (of : Lot → ℕ) → PartiesAreIds of → (s : Option (Lot × ℕ)) → IsGoodSold s → All IsGoodSale (option_to_list (option_map (λ s. Sale (of s.0) s.1) s))
sale_good of ids None h = All-nil IsGoodSale
sale_good of ids (Some s) h = All-cons IsGoodSale (Sale (of s.0) s.1) [] (record { party = ids s.0 h.0; price = h.1 }) (All-nil IsGoodSale)

-- the key of a sale
party_key : (v : Value) (k : ℕ) → IfSome (party_of v) (λ n. n ≤ greatest_id) → party_of v ≡ Some k → k ≤ greatest_id
party_key v k h e = subst (λ (o : Option ℕ). IfSome o (λ n. n ≤ greatest_id)) e h

auction_is_id : (t : ℕ) (v : Value) (k : ℕ) → IsLegalAt t v → auction_of v ≡ Some k → k ≤ greatest_id
auction_is_id t (Auction id seller category reserve expires) k h e = let same : id ≡ k = same_Some id k e in subst (λ (n : ℕ). n ≤ greatest_id) same h.0
auction_is_id t (Bid auction bidder price) k h e = let same : auction ≡ k = same_Some auction k e in subst (λ (n : ℕ). n ≤ greatest_id) same h.0
auction_is_id t _ k h e = absurd (none-some k e)

fair_prices : (rs : List Rec) → All IsGoodRecord rs → AreFairPrices (prices_of rs)
fair_prices rs h = All-filter_map (λ (p : ℕ). p ≤ greatest_price) (λ (r : Rec). price_of r.value) rs (All-weaker IsGoodRecord (λ (r : Rec). IfSome (price_of r.value) (λ p. p ≤ greatest_price)) (λ r g. g.price) rs h)

module _ {Kept : Type 0} (of : Lot → ℕ) (ids : PartiesAreIds of) (sales : SalesFacts Kept) (saved : KeptMayBeSaved sales) where
  abbrev q : QueryFacts (AuctionCell Kept)
  q = closed_by of sales

  -- a cell of the first stage
  record IsGoodAuction (cell : AuctionCell Kept) : Type 0 where
    bidding : IsGoodBidding cell.bidding
    kept : cell.sales ≡ sales.none

  auction_kept : (cell : AuctionCell Kept) (e : Entry) → IsGoodAuction cell → All RecordIsLegal e.recs → IsGoodAuction (q.step 0 cell e)
  auction_kept cell e h recs = record { bidding = records_kept e.time cell.bidding e.recs recs h.bidding; kept = h.kept }

  new_auction : IsGoodAuction (fresh_cell sales)
  new_auction = record { bidding = record { lot = tt; best = tt }; kept = refl }

  auction_gives : (cell : AuctionCell Kept) (e : Entry) → IsGoodAuction cell → All IsGoodSale (q.gives 0 cell e)
  auction_gives cell e h =
      sale_good of ids (sold_in cell.bidding e)
      (cond_both e.woken (sold_at e.time cell.bidding.lot cell.bidding.best) None IsGoodSold (λ _. sold_good e.time cell.bidding.lot cell.bidding.best h.bidding.lot h.bidding.best) (λ _. tt))

  module _ (events : List Event) (legal : EventsAreLegal events) where
    inputs : All RecordIsLegal (stage_records q events 0)
    inputs = input_records_legal q events legal

    given : All (λ o. IsGoodSale o.value) (stage_outputs q 0 (stage_records q events 0))
    given = outputs_keep q 0 IsGoodAuction RecordIsLegal IsGoodSale (λ k. new_auction) (λ cell e h recs. auction_kept cell e h recs) auction_gives (stage_records q events 0) inputs

    later : All IsGoodRecord (stage_records q events 1)
    later = next_keep q IsGoodRecord (λ (o : Output). IsGoodSale o.value) events 0 (λ k o h is. record { key = party_key o.value k h.party is; price = h.price }) given

    -- there are no more sales than events
    abbrev job_of_events : JobFacts
    job_of_events = record { values = []; events = events; controls = []; shape = record { workers = 1; bins = 1; stages = 2 }; firsts = []; paced = false; until = None; from = None }

    whole_table : table_of (λ vs. closed_by of sales) job_of_events ≡ q
    whole_table = λ i. record q { key = λ j t v. cond (and_right (j == 0) false refl i) None (key_of j v) }

    few : length (stage_records q events 1) ≤ most_events
    few =
        let made : length (stage_records (table_of (λ vs. closed_by of sales) job_of_events) events 1) ≤ length events + 0 = few_sales of (λ vs. sales) job_of_events in
        let same : length (stage_records q events 1) ≤ length events + 0 = subst (λ (w : QueryFacts (AuctionCell Kept)). length (stage_records w events 1) ≤ length events + 0) whole_table made in
        omega (arith, legal.few, same)

    auction_saved : (k t : ℕ) → (let cell = cell_before q 0 (stage_records q events 0) k t in cell ≢ fresh_cell sales → q.allows 0 k t cell ≡ true)
    auction_saved k t other =
        let cell = cell_before q 0 (stage_records q events 0) k t in
        let good = (cell_reaches q 0 (λ low n c. IsGoodAuction c) RecordIsLegal (λ low n c e h rise recs times. auction_kept c e h recs) t k new_auction (stage_records q events 0) inputs).4 in
        and_from (sales.is_none cell.sales) (bids_are_legal cell.bidding.lot cell.bidding.best)
        (ap sales.is_none good.kept ∙ saved.none)
        (bidding_saved cell.bidding.lot cell.bidding.best good.bidding.lot good.bidding.best (λ e f. other (λ i. record { bidding = record { lot = e i; best = f i }; sales = good.kept i })))

    -- a cell of the second stage: what is kept of the prices of groups
    record IsGoodParty (n : ℕ) (cell : AuctionCell Kept) : Type 0 where
      groups : List (List ℕ)
      fair : All AreFairPrices groups
      few : length (flat_map (λ ps. ps) groups) ≤ n
      kept : cell.sales ≡ fold sales.after sales.none groups
      bidding : cell.bidding ≡ no_bids

    party_kept : (n : ℕ) (cell : AuctionCell Kept) (e : Entry) → IsGoodParty n cell → All IsGoodRecord e.recs → IsGoodParty (n + length e.recs) (q.step 1 cell e)
    party_kept n cell e h recs =
        let prices = prices_of e.recs in
        let longer : length (flat_map (λ (ps : List ℕ). ps) (h.groups ++ prices ∷ [])) ≡ length (flat_map (λ (ps : List ℕ). ps) h.groups) + length prices =
        ap length (flat_map-append (λ (ps : List ℕ). ps) h.groups (prices ∷ []) ∙ ap (λ (ps : List ℕ). flat_map (λ (qs : List ℕ). qs) h.groups ++ ps) (append-nil prices)) ∙ length-append (flat_map (λ (ps : List ℕ). ps) h.groups) prices in
        record {
          groups = h.groups ++ prices ∷ [];
          fair = All-push AreFairPrices h.groups prices h.fair (fair_prices e.recs recs);
          few = omega (arith, h.few, longer, length-filter_map (λ (r : Rec). price_of r.value) e.recs);
          kept = ap (λ (kept : Kept). sales.after kept prices) h.kept ∙ sym (fold-append sales.after sales.none h.groups (prices ∷ []));
          bidding = h.bidding;
        }

    new_party : IsGoodParty 0 (fresh_cell sales)
    new_party = record { groups = []; fair = All-nil AreFairPrices; few = omega arith; kept = refl; bidding = refl }

    party_saved : (k t : ℕ) → (let cell = cell_before q 1 (stage_records q events 1) k t in cell ≢ fresh_cell sales → q.allows 1 k t cell ≡ true)
    party_saved k t other =
        let cell = cell_before q 1 (stage_records q events 1) k t in
        let all = cell_reaches q 1 (λ low n c. IsGoodParty n c) IsGoodRecord (λ low n c e h rise recs times. party_kept n c e h recs) t k new_party (stage_records q events 1) later in
        let good = all.4 in
        ⊎_elim
        (λ (e : fold sales.after sales.none good.groups ≡ sales.none). absurd (other (λ i. record { bidding = good.bidding i; sales = (good.kept ∙ e) i })))
        (λ (e : sales.allows (fold sales.after sales.none good.groups) ≡ true).
        and_from (has_none cell.bidding.lot cell.bidding.best) (sales.allows cell.sales)
        (ap (λ (b : Bidding). has_none b.lot b.best) good.bidding)
        (ap sales.allows good.kept ∙ e))
        (saved.kept good.groups good.fair (omega (arith, good.few, all.3, few)))

  keys_are_ids : KeysAreIds q
  keys_are_ids events legal zero l = inputs_keep q (λ (r : Rec). r.key ≤ greatest_id) EventIsLegal (λ i k e h is. auction_is_id e.time e.value k h.legal is) events legal.each
  keys_are_ids events legal (suc zero) l = All-weaker IsGoodRecord (λ (r : Rec). r.key ≤ greatest_id) (λ r h. h.key) (stage_records q events 1) (later events legal)
  keys_are_ids events legal (suc (suc j)) l = absurd (omega arith)

  cells_may_be_saved : CellsMayBeSaved q
  cells_may_be_saved events legal plain zero k t l other = auction_saved events legal k t other
  cells_may_be_saved events legal plain (suc zero) k t l other = party_saved events legal k t other
  cells_may_be_saved events legal plain (suc (suc j)) k t l other = absurd (omega arith)

  -- biddings are left and what is kept of sales, and the times at which auctions close
  pub leaves_what_may_be_saved : (number : ℕ) → 4 ≤ number → LeavesWhatMayBeSaved number q
  leaves_what_may_be_saved number late = record { keys = keys_are_ids; cells = cells_may_be_saved; wakes = λ r u legal i. late }
