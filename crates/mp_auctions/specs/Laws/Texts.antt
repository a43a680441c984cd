-- A cell that may be saved is told by its text.
use Rattle.std.specs.Prelude.{ℕ, ◌≡◌, ◌≢◌, ◌==◌, ◌&&◌, ◌<◌, Bool, true, false, All, Option, Some, None, List, [], ◌∷◌, length, nat_le, refl}
use Rattle.std.proofs.Common.{◌∙◌, ap, arith, lit<, subst, sym}
use Rattle.std.proofs.lemmas.Bool.{and_parts, eq-eqb, false≢true, ne_eqb}
use Rattle.std.proofs.lemmas.Option.{none-some, same_Some}
use Rattle.mp_names.specs.Limits.{greatest_id, greatest_price, greatest_time}
use Rattle.mp_model.specs.QueryLaws.{TextsTellCells}
use Rattle.mp_saved.specs.Numbers.{numbers_in}
use Rattle.mp_saved.proofs.Spelled.{AreSmall, none_small, one_small, some_again, some_are_plain}
use Rattle.mp_auctions.specs.declared.bidding.Lot.{Lot}
use Rattle.mp_auctions.specs.declared.closed.AuctionCell.{AuctionCell}
use Rattle.mp_auctions.specs.Bidding.{bid_numbers, bids_are_legal, bids_said, has_none, lot_is_legal, no_bids}
use Rattle.mp_auctions.specs.Closed.{allows_in, cell_numbers, cell_read, cell_said, closed_by, text_of}
use Rattle.mp_auctions.specs.Sales.{NumbersTellKept, SalesFacts}

-- What is kept of an auction

bids_again : (lot : Option Lot) (best : Option ℕ) → bids_are_legal lot best ≡ true → bids_said (bid_numbers lot best) ≡ record { lot = lot; best = best }
bids_again None None h = absurd (false≢true h)
bids_again None (Some best) h = refl
bids_again (Some lot) None h = refl
bids_again (Some lot) (Some best) h = refl

bids_some : (lot : Option Lot) (best : Option ℕ) → 0 < length (bid_numbers lot best)
bids_some None None = omega arith
bids_some None (Some best) = omega arith
bids_some (Some lot) None = omega arith
bids_some (Some lot) (Some best) = omega arith

lot_small : (lot : Lot) (ns : List ℕ) → lot_is_legal lot ≡ true → AreSmall ns → AreSmall (lot.seller ∷ lot.category ∷ lot.reserve ∷ lot.expires ∷ ns)
lot_small lot ns h small =
    let all = and_parts (nat_le lot.seller greatest_id && nat_le lot.category greatest_id && nat_le lot.reserve greatest_price) (nat_le lot.expires greatest_time) h in
    let three = and_parts (nat_le lot.seller greatest_id && nat_le lot.category greatest_id) (nat_le lot.reserve greatest_price) all.0 in
    let two = and_parts (nat_le lot.seller greatest_id) (nat_le lot.category greatest_id) three.0 in
    one_small lot.seller greatest_id (lot.category ∷ lot.reserve ∷ lot.expires ∷ ns) two.0 (lit< tt)
    (one_small lot.category greatest_id (lot.reserve ∷ lot.expires ∷ ns) two.1 (lit< tt)
    (one_small lot.reserve greatest_price (lot.expires ∷ ns) three.1 (lit< tt) (one_small lot.expires greatest_time ns all.1 (lit< tt) small)))

best_small : (best : ℕ) → nat_le best greatest_price ≡ true → AreSmall (best ∷ [])
best_small best h = one_small best greatest_price [] h (lit< tt) none_small

-- a yes or a no in front
flag_small : (n : ℕ) (ns : List ℕ) → nat_le n 1 ≡ true → AreSmall ns → AreSmall (n ∷ ns)
flag_small n ns h small = one_small n 1 ns h (lit< tt) small

bids_small : (lot : Option Lot) (best : Option ℕ) → bids_are_legal lot best ≡ true → AreSmall (bid_numbers lot best)
bids_small None None h = absurd (false≢true h)
bids_small None (Some best) h = flag_small 0 (1 ∷ best ∷ []) refl (flag_small 1 (best ∷ []) refl (best_small best h))
bids_small (Some lot) None h = flag_small 1 (lot.seller ∷ lot.category ∷ lot.reserve ∷ lot.expires ∷ 0 ∷ []) refl (lot_small lot (0 ∷ []) h (flag_small 0 [] refl none_small))
bids_small (Some lot) (Some best) h =
    let both = and_parts (lot_is_legal lot) (nat_le best greatest_price) h in
    flag_small 1 (lot.seller ∷ lot.category ∷ lot.reserve ∷ lot.expires ∷ 1 ∷ best ∷ []) refl (lot_small lot (1 ∷ best ∷ []) both.0 (flag_small 1 (best ∷ []) refl (best_small best both.1)))

none_is : (lot : Option Lot) (best : Option ℕ) → has_none lot best ≡ true → record { lot = lot; best = best } ≡ no_bids
none_is None None h = refl
none_is None (Some best) h = absurd (false≢true h)
none_is (Some lot) best h = absurd (false≢true h)

-- the best price of a bidding that may be saved is within the limit
pub best_is_fair : (lot : Option Lot) (best : ℕ) → bids_are_legal lot (Some best) ≡ true → nat_le best greatest_price ≡ true
best_is_fair None best h = h
best_is_fair (Some lot) best h = (and_parts (lot_is_legal lot) (nat_le best greatest_price) h).1

-- Cells

module _ {Kept : Type 0} (of : Lot → ℕ) (numbers : Kept → List ℕ) (sales : SalesFacts Kept) (tell : NumbersTellKept numbers sales) where
  -- what is kept of sales may be saved in the second stage
  pub kept_is_allowed : (second : Bool) (cell : AuctionCell Kept) → allows_in sales false second cell ≡ true → (has_none cell.bidding.lot cell.bidding.best ≡ true) × (sales.allows cell.sales ≡ true)
  kept_is_allowed second cell h =
      let both = and_parts (second && has_none cell.bidding.lot cell.bidding.best) (sales.allows cell.sales) h in
      ((and_parts second (has_none cell.bidding.lot cell.bidding.best) both.0).1, both.1)

  pub bids_are_allowed : (second : Bool) (cell : AuctionCell Kept) → allows_in sales true second cell ≡ true → (sales.is_none cell.sales ≡ true) × (bids_are_legal cell.bidding.lot cell.bidding.best ≡ true)
  bids_are_allowed second cell h = and_parts (sales.is_none cell.sales) (bids_are_legal cell.bidding.lot cell.bidding.best) h

  -- the numbers of a cell are some, and of 64 bits
  numbers_some : (first second : Bool) (cell : AuctionCell Kept) → allows_in sales first second cell ≡ true → 0 < length (cell_numbers numbers first cell)
  numbers_some true second cell h = bids_some cell.bidding.lot cell.bidding.best
  numbers_some false second cell h = tell.some cell.sales (kept_is_allowed second cell h).1

  numbers_small : (first second : Bool) (cell : AuctionCell Kept) → allows_in sales first second cell ≡ true → AreSmall (cell_numbers numbers first cell)
  numbers_small true second cell h = bids_small cell.bidding.lot cell.bidding.best (bids_are_allowed second cell h).1
  numbers_small false second cell h = tell.small cell.sales (kept_is_allowed second cell h).1

  -- and say it
  said_again : (first second : Bool) (cell : AuctionCell Kept) → allows_in sales first second cell ≡ true → cell_said sales first (cell_numbers numbers first cell) ≡ cell
  said_again true second cell h =
      let both = bids_are_allowed second cell h in
      let bidding = bids_again cell.bidding.lot cell.bidding.best both.1 in
      let kept = tell.none cell.sales both.0 in
      λ i. record { bidding = bidding i; sales = sym kept i }
  said_again false second cell h =
      let both = kept_is_allowed second cell h in
      let bidding = none_is cell.bidding.lot cell.bidding.best both.0 in
      let kept = tell.again cell.sales both.1 in
      λ i. record { bidding = sym bidding i; sales = kept i }

  -- the numbers of the cell are read from its text
  pub text_is_read : (j k t : ℕ) (cell : AuctionCell Kept) → (closed_by of sales).allows j k t cell ≡ true → numbers_in (text_of numbers j cell) ≡ Some (cell_numbers numbers (j == 0) cell)
  text_is_read j k t cell h = some_again (cell_numbers numbers (j == 0) cell) (numbers_some (j == 0) (j == 1) cell h) (numbers_small (j == 0) (j == 1) cell h)

  -- so the text says the cell
  pub texts_tell_cells : TextsTellCells (text_of numbers) (closed_by of sales)
  texts_tell_cells j k t cell h = ap (cell_read sales (j == 0)) (text_is_read j k t cell h) ∙ said_again (j == 0) (j == 1) cell h

  -- numbers that are read from it are the cell's
  numbers_read : (j k t : ℕ) (cell : AuctionCell Kept) (text : List ℕ) → (closed_by of sales).allows j k t cell ≡ true → text_of numbers j cell ≡ text → numbers_in text ≡ Some (cell_numbers numbers (j == 0) cell)
  numbers_read j k t cell text h e = ap numbers_in (sym e) ∙ text_is_read j k t cell h

  -- some are read
  pub read_some : (j k t : ℕ) (cell : AuctionCell Kept) (text : List ℕ) → (closed_by of sales).allows j k t cell ≡ true → text_of numbers j cell ≡ text → None ≡ numbers_in text → ⊥
  read_some j k t cell text h e none = none-some (cell_numbers numbers (j == 0) cell) (none ∙ numbers_read j k t cell text h e)

  -- in the first stage they say the cell
  pub read_first : (j k t : ℕ) (cell : AuctionCell Kept) (text ns : List ℕ) → j ≡ 0 → (closed_by of sales).allows j k t cell ≡ true → text_of numbers j cell ≡ text → Some ns ≡ numbers_in text
      → record { bidding = bids_said ns; sales = sales.none } ≡ cell
  read_first j k t cell text ns first h e read =
      let same = same_Some ns (cell_numbers numbers (j == 0) cell) (read ∙ numbers_read j k t cell text h e) in
      ap (λ (b : Bool). cell_said sales b ns) (sym (eq-eqb j 0 first)) ∙ ap (cell_said sales (j == 0)) same ∙ said_again (j == 0) (j == 1) cell h

  -- later they are those of what is kept of sales, and the bidding is as at first
  pub read_later : (j k t : ℕ) (cell : AuctionCell Kept) (text ns : List ℕ) → (j ≡ 0 → ⊥) → (closed_by of sales).allows j k t cell ≡ true → text_of numbers j cell ≡ text → Some ns ≡ numbers_in text
      → (no_bids ≡ cell.bidding) × (sales.allows cell.sales ≡ true) × (numbers cell.sales ≡ ns)
  read_later j k t cell text ns later h e read =
      let b = ne_eqb j 0 later in
      let same = same_Some ns (cell_numbers numbers (j == 0) cell) (read ∙ numbers_read j k t cell text h e) in
      let both = kept_is_allowed (j == 1) cell (subst (λ (first : Bool). allows_in sales first (j == 1) cell ≡ true) b h) in
      (sym (none_is cell.bidding.lot cell.bidding.best both.0), both.1, sym (same ∙ ap (λ (first : Bool). cell_numbers numbers first cell) b))

  -- no line feed stands in it
  pub texts_are_plain : (j k t : ℕ) (cell : AuctionCell Kept) → (closed_by of sales).allows j k t cell ≡ true → All (λ b. b ≢ 10) (text_of numbers j cell)
  texts_are_plain j k t cell h = some_are_plain (cell_numbers numbers (j == 0) cell) (numbers_some (j == 0) (j == 1) cell h) (numbers_small (j == 0) (j == 1) cell h)
