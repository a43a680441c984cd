-- What records make of a cell, taken together and not one by one.
use Rattle.std.proofs.Common.{ℕ, ◌≡◌, ◌++◌, ◌∙◌, List, [], ◌∷◌, Option, Some, None, ap, if◌then◌else◌, map, refl, subst, sym}
use Rattle.std.specs.List.{cons_option}
use Rattle.std.specs.Option.{is_some}
use Rattle.std.proofs.lemmas.List.{append-nil, append_assoc, map-append}
use Rattle.mp_model.specs.declared.record.Rec.{Rec}
use Rattle.mp_model.specs.declared.value.Value.{Value}
use Rattle.mp_model.specs.declared.value.Value.TheVariants.{Auction, Person}
use Rattle.mp_q_join.specs.declared.home.Home.{Home}
use Rattle.mp_q_join.specs.Joining.{PersonCell, after_records, after_value, auction_of, auctions_of, first_home, home_of, row_of, rows_along, rows_of_value}

-- a cell of these parts
abbrev kept : Option Home → List ℕ → PersonCell
kept home waiting = record { home = home; waiting = waiting }

-- a person that is kept stays
value_stays : (home : Home) (waiting : List ℕ) (v : Value) → after_value (kept (Some home) waiting) v ≡ kept (Some home) waiting
value_stays home waiting (Person id name city state) = refl
value_stays home waiting (Auction id seller category reserve expires) = refl
value_stays home waiting _ = refl

pub joined_stays : (home : Home) (waiting : List ℕ) (rs : List Rec) → after_records (kept (Some home) waiting) rs ≡ kept (Some home) waiting
joined_stays home waiting [] = refl
joined_stays home waiting (r ∷ rs) =
    ap (λ cell. after_records cell rs) (value_stays home waiting r.value) ∙ joined_stays home waiting rs

-- and each auction has a row
value_row : (home : Home) (waiting : List ℕ) (v : Value) (rs : List Rec) → rows_along (kept (Some home) waiting) rs ≡ map (row_of home) (auctions_of rs)
    → rows_of_value (kept (Some home) waiting) v ++ rows_along (after_value (kept (Some home) waiting) v) rs ≡ map (row_of home) (cons_option (auction_of v) (auctions_of rs))
value_row home waiting (Person id name city state) rs h = h
value_row home waiting (Auction id seller category reserve expires) rs h = ap (λ rows. row_of home id ∷ rows) h
value_row home waiting _ rs h = h

pub joined_rows : (home : Home) (waiting : List ℕ) (rs : List Rec) → rows_along (kept (Some home) waiting) rs ≡ map (row_of home) (auctions_of rs)
joined_rows home waiting [] = refl
joined_rows home waiting (r ∷ rs) = value_row home waiting r.value rs (joined_rows home waiting rs)

-- the cell with the person, if it comes, and these auctions
abbrev pub cell_with : Option Home → List ℕ → PersonCell
cell_with None auctions = kept None auctions
cell_with (Some home) auctions = kept (Some home) []

-- the rows of these auctions, if the person comes
abbrev pub rows_with : Option Home → List ℕ → List Value
rows_with None auctions = []
rows_with (Some home) auctions = map (row_of home) auctions

-- where no person is kept, the first of the records is, and the auctions wait for it
value_waits : (waiting : List ℕ) (v : Value) (rs : List Rec)
    → ((w : List ℕ) → after_records (kept None w) rs ≡ cell_with (first_home rs) (w ++ auctions_of rs))
    → after_records (after_value (kept None waiting) v) rs ≡ cell_with (if is_some (home_of v) then home_of v else first_home rs) (waiting ++ cons_option (auction_of v) (auctions_of rs))
value_waits waiting (Person id name city state) rs h = joined_stays (record { name = name; city = city; state = state }) [] rs
value_waits waiting (Auction id seller category reserve expires) rs h =
    h (waiting ++ id ∷ []) ∙ ap (cell_with (first_home rs)) (append_assoc waiting (id ∷ []) (auctions_of rs))
value_waits waiting _ rs h = h waiting

pub waits : (waiting : List ℕ) (rs : List Rec) → after_records (kept None waiting) rs ≡ cell_with (first_home rs) (waiting ++ auctions_of rs)
waits waiting [] = sym (ap (kept None) (append-nil waiting))
waits waiting (r ∷ rs) = value_waits waiting r.value rs (λ w. waits w rs)

-- and have their rows when it comes
value_waits_rows : (waiting : List ℕ) (v : Value) (rs : List Rec)
    → ((w : List ℕ) → rows_along (kept None w) rs ≡ rows_with (first_home rs) (w ++ auctions_of rs))
    → rows_of_value (kept None waiting) v ++ rows_along (after_value (kept None waiting) v) rs ≡ rows_with (if is_some (home_of v) then home_of v else first_home rs) (waiting ++ cons_option (auction_of v) (auctions_of rs))
value_waits_rows waiting (Person id name city state) rs h =
    let home : Home = record { name = name; city = city; state = state } in
    ap (λ rows. map (row_of home) waiting ++ rows) (joined_rows home [] rs) ∙ sym (map-append (row_of home) waiting (auctions_of rs))
value_waits_rows waiting (Auction id seller category reserve expires) rs h =
    h (waiting ++ id ∷ []) ∙ ap (rows_with (first_home rs)) (append_assoc waiting (id ∷ []) (auctions_of rs))
value_waits_rows waiting _ rs h = h waiting

pub waits_rows : (waiting : List ℕ) (rs : List Rec) → rows_along (kept None waiting) rs ≡ rows_with (first_home rs) (waiting ++ auctions_of rs)
waits_rows waiting [] = refl
waits_rows waiting (r ∷ rs) = value_waits_rows waiting r.value rs (λ w. waits_rows w rs)

-- the same of a cell whose person is known
pub cell_stays : (cell : PersonCell) (home : Home) (rs : List Rec) → cell.home ≡ Some home → after_records cell rs ≡ cell
cell_stays cell home rs is =
    subst (λ (o : Option Home). after_records (kept o cell.waiting) rs ≡ kept o cell.waiting) (sym is) (joined_stays home cell.waiting rs)

pub cell_rows : (cell : PersonCell) (home : Home) (rs : List Rec) → cell.home ≡ Some home → rows_along cell rs ≡ map (row_of home) (auctions_of rs)
cell_rows cell home rs is =
    subst (λ (o : Option Home). rows_along (kept o cell.waiting) rs ≡ map (row_of home) (auctions_of rs)) (sym is) (joined_rows home cell.waiting rs)

-- of one that has no person, where one comes
pub cell_joins : (cell : PersonCell) (home : Home) (rs : List Rec) → cell.home ≡ None → first_home rs ≡ Some home
    → after_records cell rs ≡ record { home = Some home; waiting = [] }
cell_joins cell home rs none comes =
    subst (λ (o : Option Home). after_records (kept o cell.waiting) rs ≡ kept (Some home) []) (sym none)
    (waits cell.waiting rs ∙ ap (λ o. cell_with o (cell.waiting ++ auctions_of rs)) comes)

pub cell_joins_rows : (cell : PersonCell) (home : Home) (rs : List Rec) → cell.home ≡ None → first_home rs ≡ Some home
    → rows_along cell rs ≡ map (row_of home) (cell.waiting ++ auctions_of rs)
cell_joins_rows cell home rs none comes =
    subst (λ (o : Option Home). rows_along (kept o cell.waiting) rs ≡ map (row_of home) (cell.waiting ++ auctions_of rs)) (sym none)
    (waits_rows cell.waiting rs ∙ ap (λ o. rows_with o (cell.waiting ++ auctions_of rs)) comes)

-- and where none comes
pub cell_waits : (cell : PersonCell) (rs : List Rec) → cell.home ≡ None → first_home rs ≡ None
    → after_records cell rs ≡ record { home = cell.home; waiting = cell.waiting ++ auctions_of rs }
cell_waits cell rs none later =
    subst (λ (o : Option Home). after_records (kept o cell.waiting) rs ≡ kept o (cell.waiting ++ auctions_of rs)) (sym none)
    (waits cell.waiting rs ∙ ap (λ o. cell_with o (cell.waiting ++ auctions_of rs)) later)

pub cell_waits_rows : (cell : PersonCell) (rs : List Rec) → cell.home ≡ None → first_home rs ≡ None → rows_along cell rs ≡ []
cell_waits_rows cell rs none later =
    subst (λ (o : Option Home). rows_along (kept o cell.waiting) rs ≡ []) (sym none)
    (waits_rows cell.waiting rs ∙ ap (λ o. rows_with o (cell.waiting ++ auctions_of rs)) later)
