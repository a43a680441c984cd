-- The files that a command writes, one after the other, and what they hold.
use Rattle.std.specs.Prelude.{ℕ, ◌≡◌, ◌≢◌, ◌⊎◌, ◌++◌, Option, Some, None, List, [], ◌∷◌, take}
use Rattle.std.specs.List.{AllPairs}
use Rattle.mp_checkpoint_laws.specs.Files.{IsFileOf}
use Rattle.mp_make.specs.Made.{made_events}
use Rattle.mp_model.specs.declared.record.Event.{Event}
use Rattle.mp_model.specs.Answers.{one_thread_answer}
use Rattle.mp_model.specs.Facts.{JobFacts, QueryFacts}
use Rattle.mp_model.specs.Tables.{table_of}
use Rattle.mp_names.specs.declared.kinds.Kept.{Kept}
use Rattle.mp_names.specs.Outlines.{Outline}
use Rattle.mp_outside.specs.Files.{Files, with_file}
use Rattle.mp_report.specs.Journal.{journal_text}
use Rattle.mp_report.specs.Report.{IsReport}
use Rattle.mp_restart_laws.specs.Times.{lines_below}
use Rattle.mp_opening.specs.Checkpoints.{CheckpointOf}
use Rattle.mp_words.specs.declared.options.Schedule.{Schedule}
use Rattle.mp_words.specs.Values.{From, MakeAsked, Options, SpanAsked, Until, Whole}
use Rattle.mp_words.specs.Words.{Asked, Run, Check, Make, Demo, Audit}
use Rattle.mp_control.specs.Settings.{SettingsFacts}
use Rattle.mp_command.specs.declared.flow.Flow.{Flow}
use Rattle.mp_command_files.specs.EventFile.{event_file}
use Rattle.mp_command.specs.Audits.{IsConfirmed}
use Rattle.mp_command.specs.Config.{flow_of, flow_with, job_asked, outline_asked}
use Rattle.mp_command.specs.Inputs.{Found, inputs_of, nothing_found}
use Rattle.mp_command.specs.Queries.{query_of}
use Rattle.mp_command.specs.Reading.{ReadsAll}
use Rattle.mp_command.specs.Spans.{IsSaveOf, format_by, resumed_from, stopped_at}

-- what a file that is written is for: the answer, the job's report, the checkpoint of what it leaves, its workers' journal, or events that are
-- made
pub data Purpose : Type 0 where
  Answer : Purpose
  Report : Purpose
  Save : Purpose
  Journal : Purpose
  MadeEvents : Purpose

-- a file that is written
pub record Target : Type 0 where
  pub purpose : Purpose
  pub name : List ℕ

-- the answer's file
abbrev pub answer_at : List ℕ → Target
answer_at name = record { purpose = Answer; name = name }

-- the file for a purpose, where one is asked for
abbrev pub target_in : Purpose → Option (List ℕ) → List Target
target_in purpose None = []
target_in purpose (Some name) = record { purpose = purpose; name = name } ∷ []

-- the file that what a run leaves is saved to
abbrev pub save_at : List ℕ → Target
save_at name = record { purpose = Save; name = name }

-- the same, where the run stops at a time
abbrev pub save_target : SpanAsked → List Target
save_target Whole = []
save_target (Until time save) = save_at save ∷ []
save_target (From name) = []

-- the files that a command writes, in their order
abbrev pub targets_of : Asked → List Target
targets_of (Run asked) = answer_at asked.out ∷ (target_in Report asked.report ++ (save_target asked.span ++ target_in Journal asked.journal))
targets_of (Check asked) = []
targets_of (Make asked) = record { purpose = MadeEvents; name = asked.out } ∷ []
targets_of (Demo asked) = []
targets_of (Audit asked) = []

-- no two of them have one name
abbrev pub AreApart : List Target → Type 0
AreApart targets = AllPairs (λ one other. other.name ≢ one.name) targets

-- the file of the events that are made of so many and a seed
abbrev pub made_file : MakeAsked → List ℕ
made_file asked = event_file (made_events asked.count asked.seed)

-- The text that a job writes for a purpose, by the query's table: the answer is the one-thread answer to the job's events, and the
-- journal has steps by worker that are kept so
abbrev pub IsTextOfJob : {Cell : Type 0} → QueryFacts Cell → JobFacts → (List (List Kept) → Type 0) → Purpose → List ℕ → Type 0
IsTextOfJob q job AreKept Answer text = text ≡ one_thread_answer q job.events
IsTextOfJob q job AreKept Report text = IsReport q job text
IsTextOfJob q job AreKept Journal text = (lists : List (List Kept)) × AreKept lists × (text ≡ journal_text lists)
IsTextOfJob q job AreKept Save text = ⊥
IsTextOfJob q job AreKept MadeEvents text = ⊥

-- the text that a job that goes on from a checkpoint writes: its own answer, and its report
abbrev pub IsTextOfRest : {Cell : Type 0} → (List ℕ → QueryFacts Cell) → JobFacts → Purpose → List ℕ → Type 0
IsTextOfRest facts resumed Answer text = text ≡ one_thread_answer (table_of facts resumed) resumed.events
IsTextOfRest facts resumed Report text = IsReport (table_of facts resumed) resumed text
IsTextOfRest facts resumed Save text = ⊥
IsTextOfRest facts resumed Journal text = ⊥
IsTextOfRest facts resumed MadeEvents text = ⊥

-- A query by its number, the texts of its cells and its table, with these values of its rules
module _ {Cell : Type 0} (number : ℕ) (saying : ℕ → Cell → List ℕ) (facts : List ℕ → QueryFacts Cell) (values : List ℕ) where
  -- The text that a job that stops at a time writes: the lines of the whole answer below that time, its own report, and the file of the
  -- checkpoint of what its events leave then
  abbrev pub IsTextOfStop : JobFacts → ℕ → Purpose → List ℕ → Type 0
  IsTextOfStop stopped t Answer text = text ≡ lines_below (facts values) stopped.events t
  IsTextOfStop stopped t Report text = IsReport (table_of facts stopped) stopped text
  IsTextOfStop stopped t Save text = IsSaveOf number saying facts values stopped.events t text
  IsTextOfStop stopped t Journal text = ⊥
  IsTextOfStop stopped t MadeEvents text = ⊥

  -- the text that a job writes, by the span that is asked for and the bytes of the checkpoint that it goes on from
  abbrev pub IsTextInSpan : SpanAsked → List ℕ → JobFacts → (List (List Kept) → Type 0) → Purpose → List ℕ → Type 0
  IsTextInSpan Whole bytes job AreKept purpose text = IsTextOfJob (facts values) job AreKept purpose text
  IsTextInSpan (Until t save) bytes job AreKept purpose text = IsTextOfStop (stopped_at t job) t purpose text
  IsTextInSpan (From name) bytes job AreKept purpose text =
      (c : CheckpointOf Cell) × IsFileOf (format_by number saying facts values) c bytes × IsTextOfRest facts (resumed_from saying c job) purpose text

-- what is known of the steps that the workers of a run keep, by worker: that of the machine's outline, at the depth of the mailboxes and
-- by the schedule of the run
abbrev pub Keeping : Type 1
Keeping = Outline → ℕ → Schedule → List (List Kept) → Type 0

-- of a command that makes no run there are no such steps
abbrev pub NoneKept : Keeping
NoneKept o depth schedule lists = ⊥

module _ (IsText : Purpose → List ℕ → Type 0) where
  -- each file in its turn holds a text for its purpose, and nothing else has changed
  abbrev pub WritesAll : List Target → Option Files → Option Files → Type 0
  WritesAll [] old new = new ≡ old
  WritesAll (target ∷ more) old new =
      (text : List ℕ) × IsText target.purpose text × WritesAll more (with_file old target.name text) new

  -- The files before one hold their texts; that one is as it was, or holds the first bytes of its text; and nothing else has changed
  abbrev pub WritesSome : List Target → Option Files → Option Files → Type 0
  WritesSome [] old new = new ≡ old
  WritesSome (target ∷ more) old new =
      (new ≡ old)
      ⊎ ((text : List ℕ) × IsText target.purpose text
      × (((k : ℕ) × (new ≡ with_file old target.name (take k text))) ⊎ WritesSome more (with_file old target.name text) new))

module _ (AreKept : Keeping) where
  -- the text that a run of a dataflow writes for a purpose: that of the job of the events and the settings, by the query's table with the
  -- values of the configuration, in the span that is asked for, with the bytes of a checkpoint that was read
  abbrev pub IsTextOfFlow : Options → Flow → List Event → SettingsFacts → List ℕ → Purpose → List ℕ → Type 0
  IsTextOfFlow asked flow events settings bytes purpose text =
      let some = query_of flow.query in
      let Keeps = AreKept (outline_asked asked.paced flow events settings) asked.depth asked.schedule in
      IsTextInSpan some.number some.text some.facts settings.values asked.span bytes (job_asked flow events settings) Keeps purpose text

  -- the text that a command writes for a purpose, by what it has read
  abbrev pub IsTextOf : Asked → Found → Purpose → List ℕ → Type 0
  IsTextOf (Run asked) found purpose text =
      IsTextOfFlow asked (flow_with (flow_of asked) found.pipe) found.events found.settings found.checkpoint purpose text
  IsTextOf (Make asked) found MadeEvents text = text ≡ made_file asked
  IsTextOf _ found purpose text = ⊥

  -- what a command read, which is as it wants it, and wrote by that
  abbrev pub WritesWhole : Asked → Option Files → Option Files → Type 0
  WritesWhole asked old new =
      (found : Found) × ReadsAll old (inputs_of asked) nothing_found found × IsConfirmed asked found × WritesAll (IsTextOf asked found) (targets_of asked) old new

  -- nothing has changed; or what a command read, and which part it wrote by that
  abbrev pub WritesPart : Asked → Option Files → Option Files → Type 0
  WritesPart asked old new =
      (new ≡ old)
      ⊎ ((found : Found) × ReadsAll old (inputs_of asked) nothing_found found × WritesSome (IsTextOf asked found) (targets_of asked) old new)
