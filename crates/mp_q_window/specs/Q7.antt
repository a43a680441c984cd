-- What q7 is.
use Rattle.std.specs.Prelude.{ℕ, ◌==◌, ◌&&◌, true, Option, Some, None, List, [], ◌∷◌, codes, get_or, if◌then◌else◌}
use Rattle.std.specs.Option.{option_to_list}
use Rattle.mp_model.specs.declared.record.Rec.{Rec}
use Rattle.mp_model.specs.declared.value.Value.{Value}
use Rattle.mp_model.specs.declared.value.Value.TheVariants.{Bid}
use Rattle.mp_model.specs.Facts.{QueryFacts}
use Rattle.mp_model.specs.Rules.{RuleFacts, settled}
use Rattle.mp_saved.specs.Numbers.{numbers_in}
use Rattle.mp_q_window.specs.declared.best.Offer.{Offer}
use Rattle.mp_q_window.specs.Best.{after_group, is_legal, offer_said, row_of}
use Rattle.mp_q_window.specs.Windows.{end_after}

-- its rule: how long a window is
abbrev pub width_rule : RuleFacts
width_rule = record { name = codes "width"; least = 1; greatest = 43200; given = 600 }

abbrev pub q7_rules : List RuleFacts
q7_rules = width_rule ∷ []

-- the key of a bid is the end of its window; other values make no record
abbrev pub key_of : ℕ → ℕ → Value → Option ℕ
key_of width t (Bid auction bidder price) = Some (end_after width t)
key_of width t _ = None

-- a bid wakes its key at the end of its window, and no other record wakes its key
abbrev pub posts_of : ℕ → ℕ → Rec → List ℕ
posts_of width j r = if j == 0 then option_to_list (key_of width r.time r.value) else []

-- the table with windows of this length
abbrev pub q7_with : ℕ → QueryFacts (Option Offer)
q7_with width = record {
  stages = 1;
  key = λ j t v. key_of width t v;
  posts = λ j r. posts_of width j r;
  fresh = λ j. None;
  step = λ j cell e. after_group cell e;
  gives = λ j cell e. option_to_list (row_of cell e);
  most = λ j cell e. 1;
  fits = λ j cell e. true;
  allows = λ j k t cell. j == 0 && is_legal cell;
  cell_of = λ j text. offer_said (numbers_in text);
  opening = λ j k. None;
  waking = λ j. [];
}

-- the length of a window among values, where they are allowed; else the given one
abbrev pub width_in : List ℕ → ℕ
width_in values = get_or (settled q7_rules values) 0 600

-- the table with these values of the rule
abbrev pub q7_facts : List ℕ → QueryFacts (Option Offer)
q7_facts values = q7_with (width_in values)
