-- What q3 is.
use Rattle.std.specs.Prelude.{ℕ, ◌+◌, ◌==◌, ◌&&◌, true, List, [], ◌∷◌, codes, get_or, length}
use Rattle.std.specs.Option.{unwrap_or}
use Rattle.mp_text.specs.Fields.{fields_of}
use Rattle.mp_names.specs.Limits.{greatest_id}
use Rattle.mp_model.specs.Facts.{QueryFacts}
use Rattle.mp_model.specs.Rules.{RuleFacts, settled}
use Rattle.mp_q_join.specs.Joining.{PersonCell, after_records, fresh_cell, person_is_legal, person_said, rows_along}
use Rattle.mp_q_join.specs.Keys.{seller_asked_for}

-- its rule: the auctions of which category are asked for
abbrev pub q3_rules : List RuleFacts
q3_rules = record { name = codes "category"; least = 0; greatest = greatest_id; given = 10 } ∷ []

-- the table with this category: a group has no more rows than it has records and auctions wait
abbrev pub q3_with : ℕ → QueryFacts PersonCell
q3_with wanted = record {
  stages = 1;
  key = λ j t v. seller_asked_for wanted v;
  posts = λ j r. [];
  fresh = λ j. fresh_cell;
  step = λ j cell e. after_records cell e.recs;
  gives = λ j cell e. rows_along cell e.recs;
  most = λ j cell e. length e.recs + length cell.waiting;
  fits = λ j cell e. true;
  allows = λ j k t cell. j == 0 && person_is_legal cell.home cell.waiting;
  cell_of = λ j text. unwrap_or (person_said (fields_of text)) fresh_cell;
  opening = λ j k. fresh_cell;
  waking = λ j. [];
}

-- the category among values, where they are allowed; else the given one
abbrev pub category_in : List ℕ → ℕ
category_in values = get_or (settled q3_rules values) 0 10

-- the table with these values of the rule
abbrev pub q3_facts : List ℕ → QueryFacts PersonCell
q3_facts values = q3_with (category_in values)
