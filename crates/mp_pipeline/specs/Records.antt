-- The numbers of a record.
use Rattle.std.specs.Prelude.{ℕ, ◌≡◌, Bool, true, false, List, [], ◌∷◌, get_or, length, map}
use Rattle.mp_model.specs.declared.fields.Field.{Field}
use Rattle.mp_model.specs.declared.fields.Field.TheVariants.{Number, Text}
use Rattle.mp_model.specs.declared.value.Value.{Value}
use Rattle.mp_model.specs.declared.value.Value.TheVariants.{Person, Auction, Bid, Row}
use Rattle.mp_pipeline.specs.declared.kinds.EventKind.{EventKind}
use Rattle.mp_pipeline.specs.declared.kinds.EventKind.TheVariants as kind

-- the value is that of an event of this kind
abbrev pub is_of_kind : EventKind → Value → Bool
is_of_kind kind.Person (Person id name city state) = true
is_of_kind kind.Auction (Auction id seller category reserve expires) = true
is_of_kind kind.Bid (Bid auction bidder price) = true
is_of_kind _ _ = false

-- the number of a field of a row, 0 of a name
abbrev pub number_of_field : Field → ℕ
number_of_field (Number n) = n
number_of_field (Text name) = 0

-- the numbers of a record, by their fields: its time, and then those of its value
abbrev pub numbers_in : ℕ → Value → List ℕ
numbers_in t (Person id name city state) = t ∷ id ∷ []
numbers_in t (Auction id seller category reserve expires) = t ∷ id ∷ seller ∷ category ∷ reserve ∷ expires ∷ []
numbers_in t (Bid auction bidder price) = t ∷ auction ∷ bidder ∷ price ∷ []
numbers_in t (Row fields) = t ∷ map number_of_field fields
numbers_in t _ = t ∷ []

-- the number in a field, 0 where there is no such field
abbrev pub number_in : ℕ → Value → ℕ → ℕ
number_in t v field = get_or (numbers_in t v) field 0

-- how many fields an event of a kind has, the time among them
abbrev pub fields_of_kind : EventKind → ℕ
fields_of_kind kind.Person = 2
fields_of_kind kind.Auction = 6
fields_of_kind kind.Bid = 4

-- an event of a kind has so many numbers
abbrev pub EventsHaveFields : Type 0
EventsHaveFields = (k : EventKind) (t : ℕ) (v : Value) → is_of_kind k v ≡ true → length (numbers_in t v) ≡ fields_of_kind k
