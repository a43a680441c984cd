-- What q1 is.
use Rattle.std.specs.Prelude.{ℕ, ◌*◌, ◌/◌, ◌^◌, Bool, true, Option, Some, None, List, [], ◌∷◌, codes, get_or, nat_lt}
use Rattle.mp_model.specs.declared.fields.Field.TheVariants.{Number}
use Rattle.mp_model.specs.declared.value.Value.{Value}
use Rattle.mp_model.specs.declared.value.Value.TheVariants.{Bid, Row}
use Rattle.mp_model.specs.Facts.{QueryFacts}
use Rattle.mp_model.specs.Rules.{RuleFacts, settled}
use Rattle.mp_q_simple.specs.declared.bids.Nothing.{Nothing}
use Rattle.mp_q_simple.specs.Bids.{RowFacts, bids_by}

-- its rules: so many euros are so many dollars
abbrev pub q1_rules : List RuleFacts
q1_rules =
    record { name = codes "num"; least = 0; greatest = 1000; given = 89 }
    ∷ record { name = codes "den"; least = 1; greatest = 1000; given = 100 } ∷ []

-- the price in euros, rounded down
abbrev pub euros_of : ℕ → ℕ → ℕ → ℕ
euros_of num den price = price * num / den

-- the row of a bid: its auction, its bidder, and its price in euros
abbrev pub row : ℕ → ℕ → Value → Option Value
row num den (Bid auction bidder price) = Some (Row (Number auction ∷ Number bidder ∷ Number (euros_of num den price) ∷ []))
row num den _ = None

-- that price fits 64 bits
abbrev pub row_fits : ℕ → ℕ → Value → Bool
row_fits num den (Bid auction bidder price) = nat_lt (euros_of num den price) (2 ^ 64)
row_fits num den _ = true

-- the rows, with these values of the rules
abbrev pub rows_with : List ℕ → RowFacts
rows_with values =
    let vs = settled q1_rules values in
    record { row = row (get_or vs 0 0) (get_or vs 1 1); fits = row_fits (get_or vs 0 0) (get_or vs 1 1) }

-- each bid has a row
abbrev pub q1_facts : List ℕ → QueryFacts Nothing
q1_facts values = bids_by (rows_with values)
