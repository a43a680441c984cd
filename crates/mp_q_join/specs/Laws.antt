-- The tables of q3 and q8 keep the laws of a query, whatever the values of their rules. This file and its folder are proofs.
pub mod Leaving
pub mod Texts
use Rattle.std.specs.Prelude.{ℕ, ◌≡◌, ◌<◌, ◌≤◌, ◌+◌, ◌&&◌, Bool, true, false, Option, Some, None, List, [], ◌∷◌, get_or, if◌then◌else◌, length, nat_le, refl}
use Rattle.std.specs.Option.{option_to_list}
use Rattle.std.proofs.Common.{◌∙◌, ap, arith, cond}
use Rattle.std.proofs.lemmas.Bool.{and_parts, false≢true, leb-true}
use Rattle.std.proofs.lemmas.List.{length-append, length-map}
use Rattle.mp_names.specs.Limits.{last_time}
use Rattle.mp_model.specs.declared.record.Rec.{Rec}
use Rattle.mp_model.specs.declared.value.Value.{Value}
use Rattle.mp_model.specs.declared.value.Value.TheVariants.{Auction, Person}
use Rattle.mp_model.specs.Always.{always_fits}
use Rattle.mp_model.specs.Rules.{are_within}
use Rattle.mp_model.proofs.Tables.{length_option, not_zero}
use Rattle.mp_model.specs.QueryLaws.{BeginsFresh, HasStages, PostsAreLater, LaterStagesPostNothing, MostIsEnough, FreshStaysFresh, SumsFit, RisesWithin}
use Rattle.mp_q_join.specs.declared.home.Home.{Home}
use Rattle.mp_q_join.specs.Joining.{PersonCell, after_records, after_value, fresh_cell, row_of, rows_along, rows_of_value}
use Rattle.mp_q_join.specs.Keys.{day_of_value, end_of_day}
use Rattle.mp_q_join.specs.Q3.{q3_facts, q3_with}
use Rattle.mp_q_join.specs.Q8.{q8_facts, q8_rules, q8_with, width_in}
use Rattle.mp_q_join.specs.Selling as selling

-- a value has no more rows than auctions leave the list, and one
few_rows : (home : Option Home) (waiting : List ℕ) (v : Value)
    → let cell : PersonCell = record { home = home; waiting = waiting } in
    length (rows_of_value cell v) + length (after_value cell v).waiting ≤ 1 + length waiting
few_rows (Some h) waiting (Person id name city state) = omega arith
few_rows (Some h) waiting (Auction id seller category reserve expires) = omega arith
few_rows (Some h) waiting _ = omega arith
few_rows None waiting (Person id name city state) =
    omega (arith, length-map waiting (row_of (record { name = name; city = city; state = state })))
few_rows None waiting (Auction id seller category reserve expires) = omega (arith, length-append waiting (id ∷ []))
few_rows None waiting _ = omega arith

-- so records have no more rows than there are of them, and auctions wait
length_rows : (cell : PersonCell) (rs : List Rec) → length (rows_along cell rs) ≤ length rs + length cell.waiting
length_rows cell [] = omega arith
length_rows cell (r ∷ rs) =
    omega (arith, few_rows cell.home cell.waiting r.value, length-append (rows_of_value cell r.value) (rows_along (after_value cell r.value) rs), length_rows (after_value cell r.value) rs)

-- the length of a day is allowed
width_is : (vs : List ℕ) → (1 ≤ width_in vs) × (width_in vs ≤ 43200)
width_is vs = cases (are_within q8_rules vs) refl
  where
    first : (vs : List ℕ) → are_within q8_rules vs ≡ true → (1 ≤ get_or vs 0 43200) × (get_or vs 0 43200 ≤ 43200)
    first [] e = absurd (false≢true e)
    first (n ∷ vs) e =
        let within = and_parts (nat_le 1 n) (nat_le n 43200) (and_parts (nat_le 1 n && nat_le n 43200) _ e).0 in
        (leb-true 1 n within.0, leb-true n 43200 within.1)

    cases : (b : Bool) → are_within q8_rules vs ≡ b → (1 ≤ get_or (cond b vs (43200 ∷ [])) 0 43200) × (get_or (cond b vs (43200 ∷ [])) 0 43200 ≤ 43200)
    cases true e = first vs e
    cases false e = (omega arith, omega arith)

-- the end of a day is later than each time of it, by no more than a day
day_ends_later : (width t : ℕ) → 1 ≤ width → (t < end_of_day width t) × (end_of_day width t ≤ t + width)
day_ends_later width t some = (omega arith, omega arith)

-- a value posts a later time, and not too late
posts_later : (width t : ℕ) (v : Value) → 1 ≤ width → width ≤ 43200 → t + 43200 ≤ last_time → RisesWithin t last_time (day_of_value width t v)
posts_later width t (Person id name city state) some short h =
    let ends = day_ends_later width t some in
    (ends.0, omega (arith, ends.1), tt)
posts_later width t (Auction id seller category reserve expires) some short h =
    let ends = day_ends_later width t some in
    (ends.0, omega (arith, ends.1), tt)
posts_later width t _ some short h = tt

-- what is woken afresh is fresh, and gives nothing
woken_fresh : (woken : Bool) → selling.cell_at woken selling.fresh_cell ≡ selling.fresh_cell
woken_fresh true = refl
woken_fresh false = refl

-- and what has no row gives none, woken or not
no_row : (woken : Bool) → option_to_list {X = Value} (if woken then None else None) ≡ []
no_row true = refl
no_row false = refl

module _ (wanted : ℕ) where
  -- q3 has one stage
  pub q3_has_stages : HasStages (q3_with wanted)
  q3_has_stages = (omega arith, omega arith)

  -- there are no posts
  pub q3_posts_are_later : PostsAreLater (q3_with wanted)
  q3_posts_are_later r legal = tt

  -- nor in a later stage
  pub q3_later_stages_post_nothing : LaterStagesPostNothing (q3_with wanted)
  q3_later_stages_post_nothing j r = refl

  -- a group has no more rows than it has records and auctions wait
  pub q3_most_is_enough : MostIsEnough (q3_with wanted)
  q3_most_is_enough j cell e = length_rows cell e.recs

  -- without records nothing changes, and there are no rows
  pub q3_fresh_stays_fresh : FreshStaysFresh (q3_with wanted)
  q3_fresh_stays_fresh j e none = (ap (after_records fresh_cell) none, ap (rows_along fresh_cell) none)

  -- each key begins with no person and no auction
  pub q3_begins_fresh : BeginsFresh (q3_with wanted)
  q3_begins_fresh = (refl, refl)

-- nothing is summed or counted
pub q3_sums_fit : SumsFit q3_facts
q3_sums_fit = always_fits q3_facts (λ vs j cell e. refl)

module _ (width : ℕ) where
  -- q8 has one stage
  pub q8_has_stages : HasStages (q8_with width)
  q8_has_stages = (omega arith, omega arith)

  -- there are no posts in a later stage
  pub q8_later_stages_post_nothing : LaterStagesPostNothing (q8_with width)
  q8_later_stages_post_nothing j r = rw (not_zero j) refl

  -- a group has one row at most
  pub q8_most_is_enough : MostIsEnough (q8_with width)
  q8_most_is_enough j cell e = length_option (selling.row_in cell e)

  -- a wake without records leaves a fresh cell, and gives nothing
  pub q8_fresh_stays_fresh : FreshStaysFresh (q8_with width)
  q8_fresh_stays_fresh j e none =
      (ap (selling.after_records (selling.cell_at e.woken selling.fresh_cell)) none ∙ woken_fresh e.woken, no_row e.woken)

  -- each key begins with no name, and doesn't sell
  pub q8_begins_fresh : BeginsFresh (q8_with width)
  q8_begins_fresh = (refl, refl)

-- a record posts the end of its day
pub q8_posts_are_later : (vs : List ℕ) → PostsAreLater (q8_facts vs)
q8_posts_are_later vs r legal = posts_later (width_in vs) r.time r.value (width_is vs).0 (width_is vs).1 (omega (arith, legal.in_time))

-- nothing is summed or counted
pub q8_sums_fit : SumsFit q8_facts
q8_sums_fit = always_fits q8_facts (λ vs j cell e. refl)
