-- The last stage of q1, q2, q3 and q5, and of each pipeline, gives rows alone.
use Rattle.std.specs.Prelude.{ℕ, ◌==◌, ◌%◌, map, Bool, true, false, Option, Some, None, List, [], ◌∷◌, All, IfSome, get_or, if◌then◌else◌}
use Rattle.std.specs.Option.{is_some, option_map, option_to_list}
use Rattle.std.proofs.Common.{subst, sym}
use Rattle.std.proofs.lemmas.List.Elements.{All-append, All-cons, All-map, All-nil}
use Rattle.mp_model.proofs.Lists.{All-filter_map}
use Rattle.mp_model.specs.declared.record.Rec.{Rec}
use Rattle.mp_model.specs.declared.value.Value.{Value}
use Rattle.mp_model.specs.declared.value.Value.TheVariants.{Person, Auction, Bid, Sale, Count, Row}
use Rattle.mp_model.specs.Rules.{settled}
use Rattle.mp_output.specs.Rows.{GivesRows, IsRow}
use Rattle.mp_pipeline.specs.Laws.{outputs_are_rows}
use Rattle.mp_pipeline.specs.Pipes.{IsRowOf, pipe_facts, pipe_in}
use Rattle.mp_q_simple.specs.Bids.{RowFacts, bids_by}
use Rattle.mp_q_simple.specs.Q1.{q1_facts, q1_rules, row as row_of_q1, rows_with as rows_of_q1}
use Rattle.mp_q_simple.specs.Q2.{q2_facts, q2_rules, row as row_of_q2, rows_with as rows_of_q2}
use Rattle.mp_q_join.specs.Q3.{q3_facts}
use Rattle.mp_q_join.specs.declared.home.Home.{Home}
use Rattle.mp_q_join.specs.Joining.{PersonCell, after_value, row_of, rows_along, rows_of_value}
use Rattle.mp_q_window.specs.Counts.{greatest_of, row_at}
use Rattle.mp_q_window.specs.Q5.{q5_facts}

-- An option of a row

listed : (o : Option Value) → IfSome o IsRow → All IsRow (option_to_list o)
listed (Some v) h = All-cons IsRow v [] h (All-nil IsRow)
listed None h = All-nil IsRow

where_so : (b : Bool) (v : Value) → IsRow v → IfSome (if b then Some v else None) IsRow
where_so true v h = h
where_so false v h = tt

-- q1 and q2

one_of_q1 : (num den : ℕ) (v : Value) → IfSome (row_of_q1 num den v) IsRow
one_of_q1 num den (Bid auction bidder price) = tt
one_of_q1 num den (Person id name city state) = tt
one_of_q1 num den (Auction id seller category reserve expires) = tt
one_of_q1 num den (Sale of price) = tt
one_of_q1 num den (Count auction count) = tt
one_of_q1 num den (Row fields) = tt

one_of_q2 : (modulus : ℕ) (v : Value) → IfSome (row_of_q2 modulus v) IsRow
one_of_q2 modulus (Bid auction bidder price) = where_so (auction % modulus == 0) _ tt
one_of_q2 modulus (Person id name city state) = tt
one_of_q2 modulus (Auction id seller category reserve expires) = tt
one_of_q2 modulus (Sale of price) = tt
one_of_q2 modulus (Count auction count) = tt
one_of_q2 modulus (Row fields) = tt

each_of : (row : Value → Option Value) → ((v : Value) → IfSome (row v) IsRow) → (rs : List Rec) → All (λ r. IfSome (row r.value) IsRow) rs
each_of row h [] = All-nil (λ r. IfSome (row r.value) IsRow)
each_of row h (r ∷ rs) = All-cons (λ r. IfSome (row r.value) IsRow) r rs (h r.value) (each_of row h rs)

-- what a query without cells gives is a row, where that of each value is
of_bids : (rows : RowFacts) → ((v : Value) → IfSome (rows.row v) IsRow) → GivesRows (bids_by rows)
of_bids rows each cell e = All-filter_map IsRow (λ r. rows.row r.value) e.recs (each_of rows.row each e.recs)

pub q1_gives_rows : (values : List ℕ) → GivesRows (q1_facts values)
q1_gives_rows values = of_bids (rows_of_q1 values) (one_of_q1 (get_or (settled q1_rules values) 0 0) (get_or (settled q1_rules values) 1 1))

pub q2_gives_rows : (values : List ℕ) → GivesRows (q2_facts values)
q2_gives_rows values = of_bids (rows_of_q2 values) (one_of_q2 (get_or (settled q2_rules values) 0 1))

-- q3

rows_of_ids : (home : Home) (ids : List ℕ) → All (λ id. IsRow (row_of home id)) ids
rows_of_ids home [] = All-nil (λ id. IsRow (row_of home id))
rows_of_ids home (id ∷ ids) = All-cons (λ id. IsRow (row_of home id)) id ids tt (rows_of_ids home ids)

of_home : (known : Bool) (home : Home) (ids : List ℕ) → All IsRow (if known then [] else map (row_of home) ids)
of_home true home ids = All-nil IsRow
of_home false home ids = All-map IsRow (row_of home) ids (rows_of_ids home ids)

of_auction : (home : Option Home) (id : ℕ) → All IsRow (option_to_list (option_map (λ (home : Home). row_of home id) home))
of_auction (Some home) id = listed (Some (row_of home id)) tt
of_auction None id = All-nil IsRow

of_value : (cell : PersonCell) (v : Value) → All IsRow (rows_of_value cell v)
of_value cell (Person id name city state) = of_home (is_some cell.home) _ cell.waiting
of_value cell (Auction id seller category reserve expires) = of_auction cell.home id
of_value cell (Bid auction bidder price) = All-nil IsRow
of_value cell (Sale of price) = All-nil IsRow
of_value cell (Count auction count) = All-nil IsRow
of_value cell (Row fields) = All-nil IsRow

along : (cell : PersonCell) (rs : List Rec) → All IsRow (rows_along cell rs)
along cell [] = All-nil IsRow
along cell (r ∷ rs) = All-append IsRow (rows_of_value cell r.value) (rows_along (after_value cell r.value) rs) (of_value cell r.value) (along (after_value cell r.value) rs)

pub q3_gives_rows : (values : List ℕ) → GivesRows (q3_facts values)
q3_gives_rows values cell e = along cell e.recs

-- q5

one_of_q5 : (m : ℕ) (v : Value) → IfSome (row_at m v) IsRow
one_of_q5 m (Count auction count) = where_so (count == m) _ tt
one_of_q5 m (Person id name city state) = tt
one_of_q5 m (Auction id seller category reserve expires) = tt
one_of_q5 m (Bid auction bidder price) = tt
one_of_q5 m (Sale of price) = tt
one_of_q5 m (Row fields) = tt

pub q5_gives_rows : (values : List ℕ) → GivesRows (q5_facts values)
q5_gives_rows values cell e = All-filter_map IsRow (λ r. row_at (greatest_of e.recs) r.value) e.recs (each_of (row_at (greatest_of e.recs)) (one_of_q5 (greatest_of e.recs)) e.recs)

-- pipelines

row_of_pipe : (key : ℕ) (v : Value) → IsRowOf key v → IsRow v
row_of_pipe key v (value, is) = subst IsRow (sym is) tt

pub pipes_give_rows : (values : List ℕ) → GivesRows (pipe_facts values)
pipes_give_rows values cell e = λ i d low. row_of_pipe e.key _ (outputs_are_rows (pipe_in values) _ cell e i d low)
