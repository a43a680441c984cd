-- What q2 is.
use Rattle.std.specs.Prelude.{ℕ, ◌%◌, ◌==◌, true, Option, Some, None, List, [], ◌∷◌, codes, get_or, if◌then◌else◌}
use Rattle.mp_model.specs.declared.fields.Field.TheVariants.{Number}
use Rattle.mp_model.specs.declared.value.Value.{Value}
use Rattle.mp_model.specs.declared.value.Value.TheVariants.{Bid, Row}
use Rattle.mp_model.specs.Facts.{QueryFacts}
use Rattle.mp_model.specs.Rules.{RuleFacts, settled}
use Rattle.mp_q_simple.specs.declared.bids.Nothing.{Nothing}
use Rattle.mp_q_simple.specs.Bids.{RowFacts, bids_by}

-- its rule: which auctions are asked for
abbrev pub q2_rules : List RuleFacts
q2_rules = record { name = codes "modulus"; least = 1; greatest = 1000000; given = 123 } ∷ []

-- the row of a bid on an auction that is a multiple of the number: the auction, and the price
abbrev pub row : ℕ → Value → Option Value
row modulus (Bid auction bidder price) = if auction % modulus == 0 then Some (Row (Number auction ∷ Number price ∷ [])) else None
row modulus _ = None

-- the rows, with this value of the rule
abbrev pub rows_with : List ℕ → RowFacts
rows_with values = record { row = row (get_or (settled q2_rules values) 0 1); fits = λ v. true }

-- each bid on one of those auctions has a row
abbrev pub q2_facts : List ℕ → QueryFacts Nothing
q2_facts values = bids_by (rows_with values)
