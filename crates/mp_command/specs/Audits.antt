-- What is found out of files behind their lines: of an audit, whether a journal is that of a run that writes an answer; and whether the
-- file that a run goes on from is that of a checkpoint.
use Rattle.std.specs.Prelude.{◌≡◌, ◌⊎◌, None, Option, Some}
use Rattle.mp_audit.specs.Going.{HasLegalMerge, HasNone}
use Rattle.mp_audit.specs.Lists.{list_of}
use Rattle.mp_names.specs.Outlines.{Outline}
use Rattle.mp_words.specs.Values.{AuditAsked, From, Options, SpanAsked, Until, Whole}
use Rattle.mp_words.specs.Words.{Asked, Audit, Run}
use Rattle.mp_command.specs.declared.flow.Flow.{Flow}
use Rattle.mp_command.specs.Config.{flow_of, flow_to_audit, flow_with, outline_asked}
use Rattle.mp_command.specs.Inputs.{Found}
use Rattle.mp_command.specs.Lines.{step_count}
use Rattle.mp_command_files.specs.Outcome.{Outcome, BadCheckpoint, NoRun}
use Rattle.mp_command.specs.Queries.{answer_of, query_of}
use Rattle.mp_command.specs.Spans.{IsConfirmedBy, IsRefutedBy}

-- the dataflow that is audited
abbrev pub flow_audited : AuditAsked → Found → Flow
flow_audited asked found = flow_with (flow_to_audit asked) found.pipe

-- the machine that it runs on
abbrev pub outline_audited : AuditAsked → Found → Outline
outline_audited asked found = outline_asked asked.paced (flow_audited asked found) found.events found.settings

-- the answer is the one-thread answer to the events
abbrev pub HasRightAnswer : AuditAsked → Found → Type 0
HasRightAnswer asked found = found.answer ≡ answer_of (flow_audited asked found).query found.settings.values found.events

-- Some order of all steps of the journal is a run of the machine, and the answer is the one that such a run writes
pub record IsLegal (asked : AuditAsked) (found : Found) : Type 0 where
  pub merge : HasLegalMerge (outline_audited asked found) asked.depth (list_of found.journal) (step_count found.journal)
  pub answer : HasRightAnswer asked found

-- no order of them is one, or the answer is another
abbrev pub IsIllegal : AuditAsked → Found → Type 0
IsIllegal asked found = HasNone (outline_audited asked found) asked.depth (list_of found.journal) ⊎ (HasRightAnswer asked found → ⊥)

-- the file that a run goes on from, if it does, is that of a checkpoint of its query with the values of the configuration
abbrev pub HasCheckpoint : Options → Found → Type 0
HasCheckpoint asked found =
    let some = query_of (flow_with (flow_of asked) found.pipe).query in
    IsConfirmedBy some.number some.text some.facts found.settings.values asked.span found.checkpoint

-- a run goes on from a file that is that of no such checkpoint
abbrev pub LacksCheckpoint : Options → Found → Type 0
LacksCheckpoint asked found =
    let some = query_of (flow_with (flow_of asked) found.pipe).query in
    IsRefutedBy some.number some.text some.facts found.settings.values asked.span found.checkpoint

-- what was found is as the command wants it: of `audit`, a legal journal; of `run` and `replay`, a checkpoint where they go on from one;
-- of the others nothing more is wanted
abbrev pub IsConfirmed : Asked → Found → Type 0
IsConfirmed (Audit asked) found = IsLegal asked found
IsConfirmed (Run asked) found = HasCheckpoint asked found
IsConfirmed _ found = Unit {0}

-- what was found is refuted: the journal of an audit is not legal, or a run goes on from what is no checkpoint
abbrev pub IsRefuted : Asked → Found → Type 0
IsRefuted (Audit asked) found = IsIllegal asked found
IsRefuted (Run asked) found = LacksCheckpoint asked found
IsRefuted _ found = ⊥

-- how a run of this span ends where the checkpoint that it goes on from is none
abbrev pub bad_checkpoint_of : SpanAsked → Option Outcome
bad_checkpoint_of Whole = None
bad_checkpoint_of (Until time save) = None
bad_checkpoint_of (From name) = Some (BadCheckpoint name)

-- how a command ends that refutes what it found: `audit`, and a run that goes on from a checkpoint; no other does
abbrev pub refuted_end : Asked → Option Outcome
refuted_end (Audit asked) = Some NoRun
refuted_end (Run asked) = bad_checkpoint_of asked.span
refuted_end _ = None
