-- The kinds of lines, and the limits of their fields.
use Rattle.std.specs.Prelude.{ℕ, Option, Some, None, List, [], ◌∷◌, codes, if◌then◌else◌}
use Rattle.std.specs.Str.{bytes_eq}
use Rattle.mp_events.specs.declared.kinds.LineKind.{LineKind}
use Rattle.mp_events.specs.declared.kinds.LineKind.TheVariants.{Person, Auction, Bid}
use Rattle.mp_lines.specs.declared.fields.FieldLimit.{FieldLimit}
use Rattle.mp_lines.specs.declared.fields.FieldLimit.TheVariants.{NumberWithin, NameUpTo}
use Rattle.mp_lines.specs.declared.limits.NumberLimit.TheVariants.{UpTo}
use Rattle.mp_names.specs.Limits.{greatest_id, greatest_price, greatest_time, longest_name}

-- the kind that a line's first field says
abbrev pub kind_of : List ℕ → Option LineKind
kind_of field =
    if bytes_eq field (codes "P") then Some Person
    else (if bytes_eq field (codes "A") then Some Auction
    else (if bytes_eq field (codes "B") then Some Bid else None))

-- a number that is at most this
abbrev pub up_to : ℕ → FieldLimit
up_to greatest = NumberWithin (UpTo greatest)

-- a time
abbrev pub a_time : FieldLimit
a_time = up_to greatest_time

-- an id
abbrev pub an_id : FieldLimit
an_id = up_to greatest_id

-- a price
abbrev pub a_price : FieldLimit
a_price = up_to greatest_price

-- a name
abbrev pub a_name : FieldLimit
a_name = NameUpTo longest_name

-- the limits of the fields after the kind, from left to right
abbrev pub limits_of : LineKind → List FieldLimit
-- time, id, name, city, state
limits_of Person = a_time ∷ an_id ∷ a_name ∷ a_name ∷ a_name ∷ []
-- time, id, seller, category, reserve, expires
limits_of Auction = a_time ∷ an_id ∷ an_id ∷ an_id ∷ a_price ∷ a_time ∷ []
-- time, auction, bidder, price
limits_of Bid = a_time ∷ an_id ∷ an_id ∷ a_price ∷ []
