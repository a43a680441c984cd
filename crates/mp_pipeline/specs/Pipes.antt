-- What a pipeline is, and the table of its query.
use Rattle.std.specs.Prelude.{ℕ, ◌≡◌, ◌==◌, ◌&&◌, Bool, true, false, not, Option, None, List, [], ◌∷◌, All, drop, if◌then◌else◌, length, nat_le, nat_lt, slice_get}
use Rattle.std.specs.List.{list_all}
use Rattle.std.specs.Option.{option_map_or}
use Rattle.mp_model.specs.declared.record.Rec.{Rec}
use Rattle.mp_model.specs.declared.value.Value.{Value}
use Rattle.mp_model.specs.Entry.{Entry}
use Rattle.mp_model.specs.Facts.{QueryFacts}
use Rattle.mp_pipeline.specs.declared.kinds.EventKind.{EventKind}
use Rattle.mp_pipeline.specs.declared.kinds.EventKind.TheVariants.{Bid}
use Rattle.mp_pipeline.specs.declared.stage.Form.TheVariants.{Pass}
use Rattle.mp_pipeline.specs.declared.stage.StageLine.{StageLine}
use Rattle.mp_pipeline.specs.declared.stage.Test.TheVariants.{Any}
use Rattle.mp_pipeline.specs.Groups.{after_group, fresh_by, given_by, most_by, row}
use Rattle.mp_pipeline.specs.Numbers.{kind_of, lines_of, number_of_kind, numbers_of_lines}
use Rattle.mp_pipeline.specs.Records.{is_of_kind}
use Rattle.mp_pipeline.specs.Stages.{is_no_window, key_by, posts_by}

-- the kind of the events that go in, and the line of each stage
pub record PipeFacts : Type 0 where
  pub kind : EventKind
  pub lines : List StageLine

-- a line's window is 1 to 43,200 long
abbrev pub has_width : StageLine → Bool
has_width line = nat_le 1 line.width && nat_le line.width 43200

-- a line has no windows
abbrev pub has_no_window : StageLine → Bool
has_no_window line = is_no_window line.form

-- at most four lines, each with an allowed width; windows in the first stage alone
abbrev pub may_stand : List StageLine → Bool
may_stand lines = nat_le (length lines) 4 && list_all has_width lines && list_all has_no_window (drop 1 lines)

-- and one at least
abbrev pub are_sound : List StageLine → Bool
are_sound lines = nat_lt 0 (length lines) && may_stand lines

-- what the line of a stage makes, or this where there is no such line
abbrev pub by_line : {X : Type 0} → List StageLine → ℕ → X → (StageLine → X) → X
by_line lines j none made = option_map_or made (slice_get lines j) none

-- events of another kind have no key; all else has the one that the line of its stage says
abbrev pub pipe_key : PipeFacts → ℕ → ℕ → Value → Option ℕ
pipe_key p j t v = if j == 0 && not (is_of_kind p.kind v) then None else by_line p.lines j None (λ line. key_by line t v)

-- windows end in the first stage alone
abbrev pub pipe_posts : PipeFacts → ℕ → Rec → List ℕ
pipe_posts p j r = if j == 0 then by_line p.lines j [] (λ line. posts_by line r) else []

-- The table of a pipeline: each stage by its line. No cell may be saved
abbrev pub pipe_table : PipeFacts → QueryFacts (Option ℕ)
pipe_table p = record {
  stages = length p.lines;
  key = λ j t v. pipe_key p j t v;
  posts = λ j r. pipe_posts p j r;
  fresh = λ j. by_line p.lines j None (λ line. fresh_by line.form);
  step = λ j cell e. by_line p.lines j cell (λ line. after_group line cell e);
  gives = λ j cell e. by_line p.lines j [] (λ line. given_by line cell (after_group line cell e) e);
  most = λ j cell e. by_line p.lines j 0 (λ line. most_by line.form e);
  fits = λ j cell e. true;
  allows = λ j k t cell. false;
  cell_of = λ j text. None;
  opening = λ j k. by_line p.lines j None (λ line. fresh_by line.form);
  waking = λ j. [];
}

-- what tells a pipeline apart from others: the number of its kind, and those of its lines
abbrev pub numbers_of : PipeFacts → List ℕ
numbers_of p = number_of_kind p.kind ∷ numbers_of_lines p.lines

-- one stage, by which each bid passes
abbrev pub plain_pipe : PipeFacts
plain_pipe = record { kind = Bid; lines = record { form = Pass; key = 0; value = 0; field = 0; test = Any; number = 0; width = 1 } ∷ [] }

-- the pipeline that numbers say, where its lines are sound; else the plain one
abbrev pub pipe_in : List ℕ → PipeFacts
pipe_in [] = plain_pipe
pipe_in (kind ∷ numbers) = if are_sound (lines_of numbers) then record { kind = kind_of kind; lines = lines_of numbers } else plain_pipe

-- the table of the pipeline that numbers say
abbrev pub pipe_facts : List ℕ → QueryFacts (Option ℕ)
pipe_facts numbers = pipe_table (pipe_in numbers)

-- the numbers of a pipeline say its own table
abbrev pub NumbersSayThePipe : Type 0
NumbersSayThePipe = (p : PipeFacts) → are_sound p.lines ≡ true → pipe_facts (numbers_of p) ≡ pipe_table p

-- a row of this key and a value
abbrev pub IsRowOf : ℕ → Value → Type 0
IsRowOf key v = (value : ℕ) × (v ≡ row key value)

-- each output of each stage is such a row, of the key of its group
abbrev pub OutputsAreRows : Type 0
OutputsAreRows = (p : PipeFacts) (j : ℕ) (cell : Option ℕ) (e : Entry) → All (IsRowOf e.key) ((pipe_table p).gives j cell e)
