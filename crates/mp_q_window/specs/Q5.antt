-- What q5 is.
use Rattle.std.specs.Prelude.{ℕ, ◌-◌, ◌*◌, ◌==◌, ◌&&◌, true, Option, Some, None, List, [], ◌∷◌, codes, get_or, if◌then◌else◌, length}
use Rattle.std.specs.Option.{option_to_list}
use Rattle.mp_model.specs.declared.record.Rec.{Rec}
use Rattle.mp_model.specs.declared.value.Value.{Value}
use Rattle.mp_model.specs.declared.value.Value.TheVariants.{Bid, Count}
use Rattle.mp_model.specs.Entry.{Entry}
use Rattle.mp_model.specs.Facts.{QueryFacts}
use Rattle.mp_model.specs.Rules.{RuleFacts, settled}
use Rattle.mp_saved.specs.Numbers.{numbers_in}
use Rattle.mp_q_window.specs.Counts.{rows_of}
use Rattle.mp_q_window.specs.Recent.{after_group, count_in, is_legal, times_said}
use Rattle.mp_q_window.specs.Windows.{ends_after}

-- its rules: windows end at the multiples of a slide, and are so many slides long
abbrev pub slide_rule : RuleFacts
slide_rule = record { name = codes "slide"; least = 1; greatest = 7200; given = 600 }

abbrev pub slides_rule : RuleFacts
slides_rule = record { name = codes "slides"; least = 1; greatest = 6; given = 6 }

abbrev pub q5_rules : List RuleFacts
q5_rules = slide_rule ∷ slides_rule ∷ []

-- the auction of a bid
abbrev pub auction_of : Value → Option ℕ
auction_of (Bid auction bidder price) = Some auction
auction_of _ = None

-- the time of a count
abbrev pub count_time : ℕ → Value → Option ℕ
count_time t (Count auction count) = Some t
count_time t _ = None

-- the key of a value; other values make no record
abbrev pub key_of : ℕ → ℕ → Value → Option ℕ
key_of j t v = if j == 0 then auction_of v else count_time t v

-- the ends of the windows that a bid is in
abbrev pub bid_ends : ℕ → ℕ → ℕ → Value → List ℕ
bid_ends slide slides t (Bid auction bidder price) = ends_after slide slides t
bid_ends slide slides t _ = []

-- a bid wakes its key at the ends of its windows, and no other record wakes its key
abbrev pub posts_of : ℕ → ℕ → ℕ → Rec → List ℕ
posts_of slide slides j r = if j == 0 then bid_ends slide slides r.time r.value else []

-- the cell after a group: in stage 0 the times change, of which those of this span stay; in stage 1 they are left alone
abbrev pub step_of : ℕ → ℕ → List ℕ → Entry → List ℕ
step_of span j cell e = if j == 0 then after_group span cell e else cell

-- what a group gives: in stage 0 a count of the times of this span, in stage 1 the rows of the greatest counts
abbrev pub gives_of : ℕ → ℕ → List ℕ → Entry → List Value
gives_of span j cell e = if j == 0 then option_to_list (count_in span cell e) else rows_of e.recs

-- no fewer than the outputs of a group: in stage 0 one, in stage 1 one for each record
abbrev pub most_of : ℕ → Entry → ℕ
most_of j e = if j == 0 then 1 else length e.recs

-- the table with windows of so many slides of this length; when a window ends, later ones hold what isn't in its first slide
abbrev pub q5_with : ℕ → ℕ → QueryFacts (List ℕ)
q5_with slide slides = record {
  stages = 2;
  key = λ j t v. key_of j t v;
  posts = λ j r. posts_of slide slides j r;
  fresh = λ j. [];
  step = λ j cell e. step_of (slide * (slides - 1)) j cell e;
  gives = λ j cell e. gives_of (slide * slides) j cell e;
  most = λ j cell e. most_of j e;
  fits = λ j cell e. true;
  allows = λ j k t cell. j == 0 && is_legal t cell;
  cell_of = λ j text. times_said (numbers_in text);
  opening = λ j k. [];
  waking = λ j. [];
}

-- the slide and the number of slides among values, where they are allowed; else the given ones
abbrev pub slide_in : List ℕ → ℕ
slide_in values = get_or (settled q5_rules values) 0 600

abbrev pub slides_in : List ℕ → ℕ
slides_in values = get_or (settled q5_rules values) 1 6

-- the table with these values of the rules
abbrev pub q5_facts : List ℕ → QueryFacts (List ℕ)
q5_facts values = q5_with (slide_in values) (slides_in values)
