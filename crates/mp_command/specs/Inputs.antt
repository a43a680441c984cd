-- The files that a command reads, one after the other, and what they say.
use Rattle.std.specs.Prelude.{ℕ, ◌++◌, Result, Ok, Err, List, [], ◌∷◌}
use Rattle.mp_control.specs.declared.refused.ControlReason.{ControlReason}
use Rattle.mp_control.specs.Settings.{SettingsFacts, settings_of}
use Rattle.mp_events.specs.declared.refused.EventsReason.{EventsReason}
use Rattle.mp_journal.specs.declared.refused.JournalReason.{JournalReason}
use Rattle.mp_journal.specs.Journals.{journal_of}
use Rattle.mp_events.specs.Events.{events_of}
use Rattle.mp_model.specs.declared.record.Event.{Event}
use Rattle.mp_names.specs.declared.kinds.Kept.{Kept}
use Rattle.mp_pipe_file.specs.declared.refused.PipeReason.{PipeReason}
use Rattle.mp_pipe_file.specs.Pipes.{pipe_of}
use Rattle.mp_pipeline.specs.declared.kinds.EventKind.TheVariants.{Bid}
use Rattle.mp_pipeline.specs.Pipes.{PipeFacts}
use Rattle.mp_words.specs.Values.{From, Named, Piped, QueryAsked, SpanAsked, Until, Whole}
use Rattle.mp_words.specs.Words.{Asked, Run, Check, Make, Demo, Audit}
use Rattle.mp_command.specs.Config.{FlowAsked, flow_of, flow_to_audit, flow_to_check, flow_with, shape_of}
use Rattle.mp_command_files.specs.Outcome.{Outcome, ConfigRefused, EventsRefused, JournalRefused, PipeRefused}
use Rattle.mp_command.specs.Queries.{rules_of}

-- what a file is read as: events, a pipeline, the configuration of a dataflow, a checkpoint, an answer, or the journal of a dataflow's job
pub data Input : Type 0 where
  EventFile : Input
  PipeFile : Input
  ConfigFile : (flow : FlowAsked) → Input
  CheckpointFile : Input
  AnswerFile : Input
  JournalFile : (flow : FlowAsked) → Input

-- what the files that were read so far say; of a checkpoint and of an answer, their bytes
pub record Found : Type 0 where
  pub events : List Event
  pub pipe : PipeFacts
  pub settings : SettingsFacts
  pub checkpoint : List ℕ
  pub answer : List ℕ
  pub journal : List (List Kept)

-- no pipeline was read
abbrev pub no_pipe : PipeFacts
no_pipe = record { kind = Bid; lines = [] }

-- nothing was read
abbrev pub nothing_found : Found
nothing_found = record { events = []; pipe = no_pipe; settings = record { firsts = []; values = []; controls = [] }; checkpoint = []; answer = []; journal = [] }

-- what is found with these events, or the first bad line of their file and the first check that it fails
abbrev pub with_events : Found → Result (List Event) (ℕ × EventsReason) → Result Found Outcome
with_events found (Ok events) = Ok (record found { events = events })
with_events found (Err bad) = Err (EventsRefused bad.0 bad.1)

-- what is found with this pipeline, or the first bad line of its file and the first check that it fails
abbrev pub with_pipe : Found → Result PipeFacts (ℕ × PipeReason) → Result Found Outcome
with_pipe found (Ok pipe) = Ok (record found { pipe = pipe })
with_pipe found (Err bad) = Err (PipeRefused bad.0 bad.1)

-- what is found with these settings, or the first bad line of the configuration and the first check that it fails
abbrev pub with_settings : Found → Result SettingsFacts (ℕ × ControlReason) → Result Found Outcome
with_settings found (Ok settings) = Ok (record found { settings = settings })
with_settings found (Err bad) = Err (ConfigRefused bad.0 bad.1)

-- what is found with these steps by worker, or the first bad line of the journal and the first check that it fails
abbrev pub with_journal : Found → Result (List (List Kept)) (ℕ × JournalReason) → Result Found Outcome
with_journal found (Ok lists) = Ok (record found { journal = lists })
with_journal found (Err bad) = Err (JournalRefused bad.0 bad.1)

-- what is found with this text, or how the call ends. A configuration and a journal are read for the stages of the pipeline that was read
abbrev pub read_as : Input → Found → List ℕ → Result Found Outcome
read_as EventFile found text = with_events found (events_of text)
read_as PipeFile found text = with_pipe found (pipe_of text)
read_as (ConfigFile asked) found text =
    let flow = flow_with asked found.pipe in with_settings found (settings_of text (shape_of flow) (rules_of flow.query))
read_as CheckpointFile found text = Ok (record found { checkpoint = text })
read_as AnswerFile found text = Ok (record found { answer = text })
read_as (JournalFile asked) found text = with_journal found (journal_of text (shape_of (flow_with asked found.pipe)))

-- the file of a pipeline, where one is asked for
abbrev pub pipe_input : QueryAsked → List (Input × List ℕ)
pipe_input (Named name) = []
pipe_input (Piped file) = (PipeFile, file) ∷ []

-- the event file of this name, the pipeline that the dataflow asks for, and its configuration of this name
abbrev pub files_of : List ℕ → List ℕ → FlowAsked → List (Input × List ℕ)
files_of events config flow = (EventFile, events) ∷ (pipe_input flow.query ++ (ConfigFile flow, config) ∷ [])

-- the checkpoint that a run goes on from, where it does
abbrev pub checkpoint_input : SpanAsked → List (Input × List ℕ)
checkpoint_input Whole = []
checkpoint_input (Until time save) = []
checkpoint_input (From name) = (CheckpointFile, name) ∷ []

-- an answer's file and a journal, of these names
abbrev pub audited_files : List ℕ → List ℕ → FlowAsked → List (Input × List ℕ)
audited_files out journal flow = (AnswerFile, out) ∷ (JournalFile flow, journal) ∷ []

-- the files that a command reads, in their order, each with its name
abbrev pub inputs_of : Asked → List (Input × List ℕ)
inputs_of (Run asked) = files_of asked.events asked.config (flow_of asked) ++ checkpoint_input asked.span
inputs_of (Check asked) = files_of asked.events asked.config (flow_to_check asked)
inputs_of (Make asked) = []
inputs_of (Demo asked) = []
inputs_of (Audit asked) =
    let flow = flow_to_audit asked in files_of asked.events asked.config flow ++ audited_files asked.out asked.journal flow
