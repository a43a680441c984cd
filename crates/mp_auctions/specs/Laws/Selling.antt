-- An auction is sold once at most: at the time at which its lot expires.
use Rattle.std.specs.Prelude.{ℕ, ◌≡◌, ◌==◌, ◌&&◌, ◌+◌, ◌<◌, ◌≤◌, ◌++◌, Bool, true, false, cond, Option, Some, None, List, [], ◌∷◌, if◌then◌else◌, length, max, nat_le, refl}
use Rattle.std.specs.List.{enumerate_from}
use Rattle.std.specs.Option.{option_map, option_to_list, unwrap_or}
use Rattle.std.proofs.Common.{◌∙◌, ap, arith, length-append, sym}
use Rattle.std.proofs.lemmas.Bool.{and_left, and_parts, cond-false, cond_both, eqb-true, ne_eqb}
use Rattle.std.proofs.lemmas.List.FromFn.{length-enumerate_from}
use Rattle.std.proofs.lemmas.Option.{none-some, same_Some}
use Rattle.mp_names.specs.Outlines.{is_before_stop}
use Rattle.mp_model.specs.declared.record.Event.{Event}
use Rattle.mp_model.specs.declared.record.Rec.{Rec}
use Rattle.mp_model.specs.declared.value.Value.{Value}
use Rattle.mp_model.specs.declared.value.Value.TheVariants.{Auction, Bid, Sale}
use Rattle.mp_model.specs.Entry.{Entry}
use Rattle.mp_model.specs.Facts.{JobFacts, QueryFacts}
use Rattle.mp_model.specs.Folds.{outputs_along, outputs_at, outputs_of, stage_outputs, timeline}
use Rattle.mp_model.specs.Stages.{input_records, record_of, record_of_output, stage_records}
use Rattle.mp_model.proofs.Tables.{length-filter_map}
use Rattle.mp_auctions.specs.declared.bidding.Bidding.{Bidding}
use Rattle.mp_auctions.specs.declared.bidding.Lot.{Lot}
use Rattle.mp_auctions.specs.declared.closed.AuctionCell.{AuctionCell}
use Rattle.mp_saved.proofs.Along.{TimesRise, timeline_rises}
use Rattle.mp_auctions.specs.Laws.Along.{few_outputs}
use Rattle.mp_auctions.specs.Bidding.{after_records, after_value, is_closed, sold_at, sold_in}
use Rattle.mp_auctions.specs.SaleLaws.{closed_in}
use Rattle.mp_auctions.specs.Sales.{SalesFacts}

-- a lot that is kept stays
value_stays : (t : ℕ) (b : Bidding) (lot : Lot) (v : Value) → b.lot ≡ Some lot → (after_value t b v).lot ≡ Some lot
value_stays t b lot (Auction id seller category reserve expires) h =
    ap (λ (o : Option Lot). Some (unwrap_or o (record { seller = seller; category = category; reserve = reserve; expires = expires }))) h
value_stays t b lot (Bid auction bidder price) h =
    cond_both (is_closed t b.lot) b (record b { best = Some (max (unwrap_or b.best 0) price) }) (λ (c : Bidding). c.lot ≡ Some lot) (λ _. h) (λ _. h)
value_stays t b lot _ h = h

lot_stays : (t : ℕ) (b : Bidding) (lot : Lot) (rs : List Rec) → b.lot ≡ Some lot → (after_records t b rs).lot ≡ Some lot
lot_stays t b lot [] h = h
lot_stays t b lot (r ∷ rs) h = lot_stays t (after_value t b r.value) lot rs (value_stays t b lot r.value h)

-- it is sold at no other time
no_sale : (t : ℕ) (lot : Lot) (best : Option ℕ) → (lot.expires ≡ t → ⊥) → sold_at t (Some lot) best ≡ None
no_sale t lot None other = refl
no_sale t lot (Some best) other =
    cond-false (lot.expires == t && nat_le lot.reserve best) (Some (lot, best)) None (and_left (lot.expires == t) (nat_le lot.reserve best) (ne_eqb lot.expires t other))

not_woken : (woken : Bool) (t : ℕ) (o : Option Lot) (best : Option ℕ) → sold_at t o best ≡ None → (if woken then sold_at t o best else None) ≡ None
not_woken true t o best h = h
not_woken false t o best h = refl

-- what is sold is the lot that is kept, at its time
lot_sold : (woken : Bool) (t : ℕ) (o : Option Lot) (best : Option ℕ) (s : Lot × ℕ) → (if woken then sold_at t o best else None) ≡ Some s → (o ≡ Some s.0) × (s.0.expires ≡ t)
lot_sold false t o best s h = absurd (none-some s h)
lot_sold true t None best s h = absurd (none-some s h)
lot_sold true t (Some lot) None s h = absurd (none-some s h)
lot_sold true t (Some lot) (Some best) s h = by_test (lot.expires == t && nat_le lot.reserve best) refl h
  where
    by_test : (b : Bool) → (lot.expires == t && nat_le lot.reserve best) ≡ b → cond b (Some (lot, best)) None ≡ Some s → (Some lot ≡ Some s.0) × (s.0.expires ≡ t)
    by_test true e k =
        let same : (lot, best) ≡ s = same_Some (lot, best) s k in
        (ap (λ (p : Lot × ℕ). Some p.0) same, ap (λ (p : Lot × ℕ). p.0.expires) (sym same) ∙ eqb-true lot.expires t (and_parts (lot.expires == t) (nat_le lot.reserve best) e).0)
    by_test false e k = absurd (none-some s k)

module _ {Kept : Type 0} (of : Lot → ℕ) (sales : List ℕ → SalesFacts Kept) (job : JobFacts) where
  abbrev table : QueryFacts (AuctionCell Kept)
  table = closed_in of sales job

  -- what a sale gives, before the job's stop time
  abbrev given : Bool → Option (Lot × ℕ) → List Value
  given before s = cond before (option_to_list (option_map (λ s. Sale (of s.0) s.1) s)) []

  nothing_given : (t k : ℕ) (before : Bool) → outputs_at t k (given before None) ≡ []
  nothing_given t k true = refl
  nothing_given t k false = refl

  one_given : (t k : ℕ) (before : Bool) (s : Option (Lot × ℕ)) → length (outputs_at t k (given before s)) ≤ 1
  one_given t k true None = omega arith
  one_given t k true (Some s) = omega arith
  one_given t k false s = omega arith

  -- past its time a lot is sold no more
  gone : (cell : AuctionCell Kept) (lot : Lot) (low : ℕ) (es : List Entry) → cell.bidding.lot ≡ Some lot → lot.expires < low → TimesRise low es → outputs_along table 0 cell es ≡ []
  gone cell lot low [] h past rise = refl
  gone cell lot low (e ∷ es) h past rise =
      let before = is_before_stop job.until e.time in
      let none : sold_in cell.bidding e ≡ None = not_woken e.woken e.time cell.bidding.lot cell.bidding.best (ap (λ (o : Option Lot). sold_at e.time o cell.bidding.best) h ∙ no_sale e.time lot cell.bidding.best (λ same. omega (arith, rise.0))) in
      let rest = gone (table.step 0 cell e) lot (e.time + 1) es (lot_stays e.time cell.bidding lot e.recs h) (omega (arith, rise.0)) rise.1 in
      ap (λ s. outputs_at e.time e.key (given before s) ++ outputs_along table 0 (table.step 0 cell e) es) none
      ∙ ap (λ os. os ++ outputs_along table 0 (table.step 0 cell e) es) (nothing_given e.time e.key before) ∙ rest

  -- groups that come one after the other give one sale at most
  sells_once : (cell : AuctionCell Kept) (low : ℕ) (es : List Entry) → TimesRise low es → length (outputs_along table 0 cell es) ≤ 1
  sells_once cell low [] rise = omega arith
  sells_once cell low (e ∷ es) rise = by_sale (sold_in cell.bidding e) refl (sells_once (table.step 0 cell e) (e.time + 1) es rise.1)
    where
      by_sale : (s : Option (Lot × ℕ)) → sold_in cell.bidding e ≡ s → length (outputs_along table 0 (table.step 0 cell e) es) ≤ 1
          → length (outputs_at e.time e.key (given (is_before_stop job.until e.time) s) ++ outputs_along table 0 (table.step 0 cell e) es) ≤ 1
      by_sale None is more =
          let rest = outputs_along table 0 (table.step 0 cell e) es in
          let before = is_before_stop job.until e.time in
          let none : length (outputs_at e.time e.key (given before None)) ≡ 0 = ap length (nothing_given e.time e.key before) in
          omega (arith, length-append (outputs_at e.time e.key (given before None)) rest, none, more)
      by_sale (Some s) is more =
          let rest = outputs_along table 0 (table.step 0 cell e) es in
          let before = is_before_stop job.until e.time in
          let sold = lot_sold e.woken e.time cell.bidding.lot cell.bidding.best s is in
          let none = gone (table.step 0 cell e) s.0 (e.time + 1) es (lot_stays e.time cell.bidding s.0 e.recs sold.0) (omega (arith, sold.1)) rise.1 in
          let short : length rest ≡ 0 = ap length none in
          omega (arith, length-append (outputs_at e.time e.key (given before (Some s))) rest, one_given e.time e.key before (Some s), short)

  -- an auction is sold once at most
  pub sold_once : (rs : List Rec) (auction : ℕ) → length (outputs_of table 0 rs auction) ≤ 1
  sold_once rs auction = sells_once (table.opening 0 auction) 0 (timeline table 0 auction rs) (timeline_rises table 0 auction rs)

  -- so there are no more sales than events and wakes that the job begins with
  pub few_sales : length (stage_records table job.events 1) ≤ length job.events + length (table.waking 0)
  few_sales =
      let rs = input_records table job.events in
      omega (arith, length-filter_map (record_of_output table 1) (stage_outputs table 0 rs), few_outputs table 0 rs (sold_once rs), length-filter_map (λ (p : ℕ × Event). record_of table p.0 p.1) (enumerate_from 0 job.events), length-enumerate_from 0 job.events)
