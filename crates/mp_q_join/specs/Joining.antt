-- What q3 keeps of a seller.
use Rattle.std.specs.Prelude.{ℕ, ◌++◌, ◌==◌, ◌&&◌, Bool, Option, Some, None, List, [], ◌∷◌, codes, fold, if◌then◌else◌, length, map, nat_le, nat_lt}
use Rattle.std.specs.Fmt.{decimal}
use Rattle.std.specs.List.{filter_map, flat_map, join_with_byte, list_all}
use Rattle.std.specs.Option.{is_some, option_map, option_to_list}
use Rattle.mp_model.specs.declared.fields.Field.TheVariants.{Number, Text}
use Rattle.mp_model.specs.declared.record.Rec.{Rec}
use Rattle.mp_model.specs.declared.value.Value.{Value}
use Rattle.mp_model.specs.declared.value.Value.TheVariants.{Auction, Person, Row}
use Rattle.mp_names.specs.Limits.{greatest_id, most_events}
use Rattle.mp_saved.specs.Numbers.{numbers_said}
use Rattle.mp_q_join.specs.Names.{is_yes, name_is_legal}
use Rattle.mp_q_join.specs.declared.home.Home.{Home}

-- the person, if it came, and the ids of the auctions that wait for it
pub record PersonCell : Type 0 where
  pub home : Option Home
  pub waiting : List ℕ

-- at first there is no person, and no auction waits
abbrev pub fresh_cell : PersonCell
fresh_cell = record { home = None; waiting = [] }

-- the row of an auction of a person
abbrev pub row_of : Home → ℕ → Value
row_of home id = Row (Text home.name ∷ Text home.city ∷ Text home.state ∷ Number id ∷ [])

-- the cell after a person: the first is kept, and no auction waits any more
abbrev pub with_home : PersonCell → Home → PersonCell
with_home cell home = if is_some cell.home then cell else record { home = Some home; waiting = [] }

-- the cell after an auction, which waits where there is no person
abbrev pub with_auction : PersonCell → ℕ → PersonCell
with_auction cell id = if is_some cell.home then cell else record cell { waiting = cell.waiting ++ id ∷ [] }

-- the cell after a value; values of other kinds leave it as it is
abbrev pub after_value : PersonCell → Value → PersonCell
after_value cell (Person id name city state) = with_home cell (record { name = name; city = city; state = state })
after_value cell (Auction id seller category reserve expires) = with_auction cell id
after_value cell _ = cell

-- the rows of a person: one for each auction that waits for it
abbrev pub rows_of_home : PersonCell → Home → List Value
rows_of_home cell home = if is_some cell.home then [] else map (row_of home) cell.waiting

-- the rows of a value: an auction has one where there is a person
abbrev pub rows_of_value : PersonCell → Value → List Value
rows_of_value cell (Person id name city state) = rows_of_home cell (record { name = name; city = city; state = state })
rows_of_value cell (Auction id seller category reserve expires) =
    option_to_list (option_map (λ (home : Home). row_of home id) cell.home)
rows_of_value cell _ = []

-- the cell after records, one by one
abbrev pub after_records : PersonCell → List Rec → PersonCell
after_records cell rs = fold (λ cell r. after_value cell r.value) cell rs

-- the rows of records, one by one
abbrev pub rows_along : PersonCell → List Rec → List Value
rows_along cell [] = []
rows_along cell (r ∷ rs) = rows_of_value cell r.value ++ rows_along (after_value cell r.value) rs

-- the id of an auction
abbrev pub auction_of : Value → Option ℕ
auction_of (Auction id seller category reserve expires) = Some id
auction_of _ = None

-- the ids of the auctions among records, in order
abbrev pub auctions_of : List Rec → List ℕ
auctions_of rs = filter_map (λ r. auction_of r.value) rs

-- what is kept of a person
abbrev pub home_of : Value → Option Home
home_of (Person id name city state) = Some (record { name = name; city = city; state = state })
home_of _ = None

-- the first person among records
abbrev pub first_home : List Rec → Option Home
first_home [] = None
first_home (r ∷ rs) = if is_some (home_of r.value) then home_of r.value else first_home rs

-- Saved cells

-- the words of a person: 1, its name, its city and its state
abbrev pub home_words : Home → List (List ℕ)
home_words home = codes "1" ∷ home.name ∷ home.city ∷ home.state ∷ []

-- the text of a cell: the words of the person, cut by `|`; or 0, and the ids that wait, each after a `|`
abbrev pub cell_text : Option Home → List ℕ → List ℕ
cell_text (Some home) waiting = join_with_byte 124 (home_words home)
cell_text None waiting = codes "0" ++ flat_map (λ id. 124 ∷ decimal id) waiting

abbrev pub text_of : ℕ → PersonCell → List ℕ
text_of j cell = cell_text cell.home cell.waiting

-- the cell of a person that words say
abbrev pub home_said : List (List ℕ) → Option PersonCell
home_said (name ∷ city ∷ state ∷ rest) = Some (record { home = Some (record { name = name; city = city; state = state }); waiting = [] })
home_said _ = None

-- the cell in which these ids wait, if they are read
abbrev pub waiting_said : Option (List ℕ) → Option PersonCell
waiting_said None = None
waiting_said (Some ids) = Some (record { home = None; waiting = ids })

-- the cell in which the ids wait that words say, if there are words
abbrev pub waiting_read : List (List ℕ) → Option PersonCell
waiting_read [] = None
waiting_read (word ∷ words) = waiting_said (numbers_said (word ∷ words))

-- the cell that words say
abbrev pub person_said : List (List ℕ) → Option PersonCell
person_said [] = None
person_said (flag ∷ words) = if is_yes flag then home_said words else waiting_read words

-- the names of a person are legal
abbrev pub home_is_legal : Home → Bool
home_is_legal home = name_is_legal home.name && name_is_legal home.city && name_is_legal home.state

-- each id is within its limit
abbrev pub ids_are_legal : List ℕ → Bool
ids_are_legal ids = list_all (λ id. nat_le id greatest_id) ids

-- a cell may be saved with a person for which nothing waits, or with one or more ids that wait, no more than events of a file
abbrev pub person_is_legal : Option Home → List ℕ → Bool
person_is_legal (Some home) waiting = length waiting == 0 && home_is_legal home
person_is_legal None waiting = nat_lt 0 (length waiting) && nat_le (length waiting) most_events && ids_are_legal waiting
