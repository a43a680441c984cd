-- The table of a query on closed auctions keeps the laws of a query, whatever it makes of the sales. This file and its folder are proofs.
pub mod Along
pub mod FairPrices
pub mod Leaving
pub mod Selling
pub mod Texts
use Rattle.std.specs.Prelude.{ℕ, zero, suc, ◌≡◌, ◌==◌, Bool, true, false, Option, Some, None, List, [], ◌∷◌, All, IsSome, if◌then◌else◌, length, refl}
use Rattle.std.specs.Option.{option_map, option_to_list}
use Rattle.std.proofs.Common.{◌∙◌, ap, arith}
use Rattle.std.proofs.lemmas.List.Elements.{All-nil, All-cons}
use Rattle.mp_model.specs.declared.fields.Field.TheVariants.{Number}
use Rattle.mp_names.specs.Limits.{last_time}
use Rattle.mp_model.specs.declared.record.Rec.{Rec}
use Rattle.mp_model.specs.declared.value.Value.{Value}
use Rattle.mp_model.specs.declared.value.Value.TheVariants.{Auction, Row, Sale}
use Rattle.mp_model.specs.Legal.{IsLegalAt}
use Rattle.mp_model.specs.QueryLaws.{HasStages, PostsAreLater, LaterStagesPostNothing, OutputsHaveKeys, MostIsEnough, FreshStaysFresh, BeginsFresh, RisesWithin}
use Rattle.mp_model.proofs.Tables.{length_option, not_zero}
use Rattle.mp_auctions.specs.declared.bidding.Lot.{Lot}
use Rattle.mp_auctions.specs.Bidding.{after_records, no_bids, sold_in}
use Rattle.mp_auctions.specs.Closed.{closed_by, closing_of, fresh_cell, party_of}
use Rattle.mp_auctions.specs.Sales.{SalesFacts, prices_of}

-- an auction closes after its record, and not too late
closes_later : (t : ℕ) (v : Value) → IsLegalAt t v → RisesWithin t last_time (closing_of v)
closes_later t (Auction id seller category reserve expires) legal = (legal.4, omega (arith, legal.5), tt)
closes_later t _ legal = tt

-- a sale has a key in stage 1
sale_has_key : {A : Type 0} (s : Option A) (of price : A → ℕ)
    → All (λ v. IsSome (party_of v)) (option_to_list (option_map (λ x. Sale (of x) (price x)) s))
sale_has_key None of price = All-nil (λ (v : Value). IsSome (party_of v))
sale_has_key (Some x) of price =
    All-cons (λ (v : Value). IsSome (party_of v)) (Sale (of x) (price x)) [] refl (All-nil (λ (v : Value). IsSome (party_of v)))

-- what isn't there is sold at no price
nothing_sold : {A : Type 0} (woken : Bool) (sale : A → Value) → option_to_list (option_map sale (if woken then None else None)) ≡ []
nothing_sold true sale = refl
nothing_sold false sale = refl

-- nothing has no row
no_row : (rs : List Rec) → rs ≡ [] → (row : Value) → option_to_list (if length rs == 0 then None else Some row) ≡ []
no_row rs none row = rw none refl

module _ {Kept : Type 0} (of : Lot → ℕ) (sales : SalesFacts Kept) where
  -- there are two stages
  pub has_stages : HasStages (closed_by of sales)
  has_stages = (omega arith, omega arith)

  -- a record posts the time at which its auction closes
  pub posts_are_later : PostsAreLater (closed_by of sales)
  posts_are_later r legal = closes_later r.time r.value legal.legal

  -- sales post nothing
  pub later_stages_post_nothing : LaterStagesPostNothing (closed_by of sales)
  later_stages_post_nothing j r = rw (not_zero j) refl

  -- each sale has a key in stage 1
  pub sales_have_keys : OutputsHaveKeys (closed_by of sales)
  sales_have_keys zero cell e below = sale_has_key (sold_in cell.bidding e) (λ s. of s.0) (λ s. s.1)
  sales_have_keys (suc j) cell e below = absurd (omega arith)

  -- a group has one output at most
  pub most_is_enough : MostIsEnough (closed_by of sales)
  most_is_enough j cell e = length_option _

  -- without records there are no rows
  pub fresh_stays_fresh : sales.after sales.none [] ≡ sales.none → FreshStaysFresh (closed_by of sales)
  fresh_stays_fresh same zero e none =
      (ap (λ rs. record (fresh_cell sales) { bidding = after_records e.time no_bids rs }) none, nothing_sold e.woken _)
  fresh_stays_fresh same (suc j) e none =
      rw (not_zero j)
      (ap (λ rs. record (fresh_cell sales) { sales = sales.after sales.none (prices_of rs) }) none ∙ ap (λ (s : Kept). record (fresh_cell sales) { sales = s }) same, no_row e.recs none (Row (Number e.key ∷ Number (sales.average (sales.after sales.none (prices_of e.recs))) ∷ [])))

  -- each key begins with nothing
  pub begins_fresh : BeginsFresh (closed_by of sales)
  begins_fresh = (refl, refl)
