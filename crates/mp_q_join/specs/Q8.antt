-- What q8 is.
use Rattle.std.specs.Prelude.{ℕ, ◌==◌, ◌&&◌, true, List, [], ◌∷◌, codes, get_or}
use Rattle.std.specs.Option.{option_to_list, unwrap_or}
use Rattle.mp_text.specs.Fields.{fields_of}
use Rattle.mp_model.specs.Facts.{QueryFacts}
use Rattle.mp_model.specs.Rules.{RuleFacts, settled}
use Rattle.mp_q_join.specs.declared.selling.Selling.{Selling}
use Rattle.mp_q_join.specs.Keys.{posts_of, seller_of}
use Rattle.mp_q_join.specs.Selling.{after_records, cell_at, fresh_cell, row_in, selling_is_legal, selling_said}

-- its rule: how many units of time a day has
abbrev pub q8_rules : List RuleFacts
q8_rules = record { name = codes "width"; least = 1; greatest = 43200; given = 43200 } ∷ []

-- the table with days of this length
abbrev pub q8_with : ℕ → QueryFacts Selling
q8_with width = record {
  stages = 1;
  key = λ j t v. seller_of v;
  posts = λ j r. posts_of width j r;
  fresh = λ j. fresh_cell;
  step = λ j cell e. after_records (cell_at e.woken cell) e.recs;
  gives = λ j cell e. option_to_list (row_in cell e);
  most = λ j cell e. 1;
  fits = λ j cell e. true;
  allows = λ j k t cell. j == 0 && selling_is_legal cell.name cell.sells;
  cell_of = λ j text. unwrap_or (selling_said (fields_of text)) fresh_cell;
  opening = λ j k. fresh_cell;
  waking = λ j. [];
}

-- the length of a day among values, where they are allowed; else the given one
abbrev pub width_in : List ℕ → ℕ
width_in values = get_or (settled q8_rules values) 0 43200

-- the table with these values of the rule
abbrev pub q8_facts : List ℕ → QueryFacts Selling
q8_facts values = q8_with (width_in values)
