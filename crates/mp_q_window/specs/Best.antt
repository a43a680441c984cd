-- What is made of the bids of a window.
use Rattle.std.specs.Prelude.{ℕ, ◌==◌, ◌&&◌, Bool, false, Option, Some, None, List, [], ◌∷◌, fold, get_or, if◌then◌else◌, length, nat_le, nat_lt}
use Rattle.std.specs.Option.{option_map}
use Rattle.mp_model.specs.declared.fields.Field.TheVariants.{Number}
use Rattle.mp_model.specs.declared.value.Value.{Value}
use Rattle.mp_model.specs.declared.value.Value.TheVariants.{Bid, Row}
use Rattle.mp_model.specs.Entry.{Entry}
use Rattle.mp_names.specs.Limits.{greatest_id, greatest_price}
use Rattle.mp_saved.specs.Numbers.{numbers_text}
use Rattle.mp_q_window.specs.declared.best.Offer.{Offer}

-- an offer is the best where there is none or its price is greater; so the first of equal prices stays
abbrev pub better_of : Option Offer → Offer → Option Offer
better_of None offer = Some offer
better_of (Some best) offer = if nat_lt best.price offer.price then Some offer else Some best

-- the best offer after a value; other values leave it as it is
abbrev pub after_value : Option Offer → Value → Option Offer
after_value best (Bid auction bidder price) = better_of best (record { auction = auction; bidder = bidder; price = price })
after_value best _ = best

-- what is kept before the records of a group: nothing, where it ends a window
abbrev pub at_start : Option Offer → Entry → Option Offer
at_start best e = if e.woken then None else best

-- the best offer after a group, whose records are taken in order
abbrev pub after_group : Option Offer → Entry → Option Offer
after_group best e = fold (λ b r. after_value b r.value) (at_start best e) e.recs

-- the row of an offer: its auction, its bidder and its price
abbrev pub row_with : Offer → Value
row_with offer = Row (Number offer.auction ∷ Number offer.bidder ∷ Number offer.price ∷ [])

-- the row of the best offer, where the group ends a window
abbrev pub row_of : Option Offer → Entry → Option Value
row_of best e = if e.woken then option_map row_with best else None

-- Saved offers

-- the numbers of an offer
abbrev pub numbers_of : Option Offer → List ℕ
numbers_of None = []
numbers_of (Some offer) = offer.auction ∷ offer.bidder ∷ offer.price ∷ []

-- the text of a cell: the numbers of its offer
abbrev pub text_of : ℕ → Option Offer → List ℕ
text_of j best = numbers_text (numbers_of best)

-- the offer that three numbers say
abbrev pub offer_of : List ℕ → Option Offer
offer_of ns = if length ns == 3 then Some (record { auction = get_or ns 0 0; bidder = get_or ns 1 0; price = get_or ns 2 0 }) else None

-- the offer that numbers say, if they are read
abbrev pub offer_said : Option (List ℕ) → Option Offer
offer_said None = None
offer_said (Some ns) = offer_of ns

-- an offer may be saved whose numbers are within the limits of a bid
abbrev pub is_legal : Option Offer → Bool
is_legal None = false
is_legal (Some offer) = nat_le offer.auction greatest_id && nat_le offer.bidder greatest_id && nat_le offer.price greatest_price
