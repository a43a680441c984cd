-- The lines of a pipeline file: the checks that they fail, and what they say.
use Rattle.std.specs.Prelude.{◌≡◌, ℕ, ◌==◌, ◌++◌, ◌||◌, Bool, true, false, Option, Some, None, Result, Ok, Err, List, [], ◌∷◌, if◌then◌else◌, is_none, is_some, length, nat_lt}
use Rattle.std.specs.List.{slice_get}
use Rattle.std.specs.Option.{option_map}
use Rattle.mp_lines.specs.declared.refused.LineRefused.{LineRefused}
use Rattle.mp_lines.specs.Checks.{check, field_at}
use Rattle.mp_lines.specs.Refusals.{IfBad}
use Rattle.mp_lines.specs.Rules.{LineRules}
use Rattle.mp_pipe_file.specs.declared.kinds.LineKind.{LineKind}
use Rattle.mp_pipe_file.specs.declared.kinds.LineKind.TheVariants.{On, Stage}
use Rattle.mp_pipe_file.specs.declared.refused.PipeReason.{PipeReason}
use Rattle.mp_pipe_file.specs.declared.refused.PipeReason.TheVariants.{Kind, Fields, Order, Count}
use Rattle.mp_pipe_file.specs.Fields.{checks_of, failures_within}
use Rattle.mp_pipe_file.specs.Stages.{stage_on}
use Rattle.mp_pipe_file.specs.Words.{event_kind_of, kind_of}
use Rattle.mp_pipeline.specs.declared.stage.Form.{Form}
use Rattle.mp_pipeline.specs.declared.stage.StageLine.{StageLine}
use Rattle.mp_pipeline.specs.Pipes.{PipeFacts, may_stand}
use Rattle.mp_pipeline.specs.Records.{fields_of_kind}
use Rattle.mp_pipeline.specs.Stages.{is_no_window}

-- the checks that a line fails which says the kind of events, behind lines that said this: it has two fields, the second is such a kind, and
-- none was said
abbrev pub failures_of_on : Option PipeFacts → List (List ℕ) → List PipeReason
failures_of_on before fields =
    check (length fields == 2) Fields
    ++ check (is_some (event_kind_of (field_at fields 1))) Kind
    ++ check (is_none before) Order

-- how many fields the records of the next stage have: those of events in the first, three in later ones; six where no kind of events was said
abbrev pub fields_behind : Option PipeFacts → ℕ
fields_behind None = 6
fields_behind (Some pipe) = if length pipe.lines == 0 then fields_of_kind pipe.kind else 3

-- a kind of events was said, and windows are in the first stage alone
abbrev pub is_in_order : Option PipeFacts → Form → Bool
is_in_order None form = false
is_in_order (Some pipe) form = is_no_window form || (length pipe.lines == 0)

-- how many stages were said
abbrev pub count_of : Option PipeFacts → ℕ
count_of None = 0
count_of (Some pipe) = length pipe.lines

-- the checks that a line fails which says a stage: its fields, its order, and that there are no more than four
abbrev pub failures_of_stage : Option PipeFacts → Form → List (List ℕ) → List PipeReason
failures_of_stage before form fields =
    failures_within (checks_of (fields_behind before) form) fields
    ++ check (is_in_order before form) Order
    ++ check (nat_lt (count_of before) 4) Count

-- the checks that a line of this kind fails, in their order
abbrev pub failures_by : Option PipeFacts → Option LineKind → List (List ℕ) → List PipeReason
failures_by before None fields = Kind ∷ []
failures_by before (Some On) fields = failures_of_on before fields
failures_by before (Some (Stage form)) fields = failures_of_stage before form fields

-- the pipeline of a kind of events, without a stage
abbrev pub with_kind : List (List ℕ) → Option PipeFacts
with_kind fields = option_map (λ kind. record { kind = kind; lines = [] }) (event_kind_of (field_at fields 1))

-- the pipeline with one stage more
abbrev pub with_line : StageLine → PipeFacts → PipeFacts
with_line line pipe = record pipe { lines = pipe.lines ++ line ∷ [] }

abbrev pub with_stage : Option PipeFacts → StageLine → Option PipeFacts
with_stage before line = option_map (with_line line) before

-- what lines said, with a line of this kind
abbrev pub said_by : Option PipeFacts → Option LineKind → List (List ℕ) → Option PipeFacts
said_by before None fields = before
said_by before (Some On) fields = with_kind fields
said_by before (Some (Stage form)) fields = with_stage before (stage_on form fields)

-- the checks that a line behind these fails, and what all say with it
abbrev pub pipe_rules : LineRules (Option PipeFacts) PipeReason
pipe_rules = record {
  failures = λ before fields. failures_by before (kind_of (field_at fields 0)) fields;
  after = λ before fields. said_by before (kind_of (field_at fields 0)) fields;
}

-- a stage may stand behind those that were said
abbrev pub MayFollow : Option PipeFacts → StageLine → Type 0
MayFollow None line = ⊥
MayFollow (Some pipe) line = may_stand (pipe.lines ++ line ∷ []) ≡ true

module _ {T : Type 0} where
  -- an answer to a line: where it fails no check a value for which P holds, else the first check that it fails; want of memory says nothing
  abbrev pub AnswersLine : Result T (LineRefused PipeReason) → List PipeReason → (T → Type 0) → Type 0
  AnswersLine (Ok x) failures P = (failures ≡ []) × P x
  AnswersLine (Err refused) failures P = IfBad refused (λ why. slice_get failures 0 ≡ Some why)
