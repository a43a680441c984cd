-- What one file says, or is refused for, is what is found with it, or how the call ends.
use Rattle.std.proofs.Common.{◌≡◌, ap, inl, inr, sym, ◌∙◌, Err, List, Ok, Option, Result, ℕ}
use Rattle.std.specs.Prelude.{IfErr, IfOk}
use Rattle.mp_control.specs.declared.refused.ControlReason.{ControlReason}
use Rattle.mp_control.specs.Settings.{SettingsFacts, settings_of}
use Rattle.mp_events.specs.declared.refused.EventsReason.{EventsReason}
use Rattle.mp_events.specs.Events.{events_of}
use Rattle.mp_journal.specs.declared.refused.JournalReason.{JournalReason}
use Rattle.mp_journal.specs.Journals.{journal_of}
use Rattle.mp_model.specs.declared.record.Event.{Event}
use Rattle.mp_names.specs.declared.kinds.Kept.{Kept}
use Rattle.mp_outside.specs.Files.{Files}
use Rattle.mp_pipe_file.specs.declared.refused.PipeReason.{PipeReason}
use Rattle.mp_pipe_file.specs.Pipes.{pipe_of}
use Rattle.mp_pipeline.specs.Pipes.{PipeFacts}
use Rattle.mp_command_files.specs.Outcome.{Outcome, ConfigRefused, EventsRefused, JournalRefused, PipeRefused}
use Rattle.mp_command_files.specs.Texts.{IsRefused, Says, or_refused}
use Rattle.mp_command.specs.declared.flow.Flow.{Flow}
use Rattle.mp_command.specs.Config.{FlowAsked, flow_with, shape_of}
use Rattle.mp_command.specs.Inputs.{ConfigFile, EventFile, Found, Input, JournalFile, PipeFile, read_as, with_events, with_journal, with_pipe, with_settings}
use Rattle.mp_command.specs.Queries.{rules_of}
use Rattle.mp_command.specs.Reading.{ReadsAs, RefusesAs}

module _ {V Why : Type 0} (reads : List ℕ → Result V (ℕ × Why)) (refusal : ℕ → Why → Outcome) (input : Input) (found : Found) where
  -- what such a file says is found with it
  found_with : (told : Option Files) (name : List ℕ) (value : V) (after : Found) → ((text : List ℕ) → reads text ≡ Ok value → read_as input found text ≡ Ok after)
      → Says reads told name value → ReadsAs told (input, name) found after
  found_with told name value after is (text, read, e) = (text, read, is text e)

  -- what it is refused for is how the call ends
  ends_with : (told : Option Files) (name : List ℕ) (o : Outcome) → ((text : List ℕ) → or_refused refusal (reads text) ≡ Err o → read_as input found text ≡ Err o)
      → IsRefused reads refusal told name o → RefusesAs told (input, name) found o
  ends_with told name o is (inl cannot) = inl cannot
  ends_with told name o is (inr (text, read, e)) = inr (text, read, is text e)

module _ (told : Option Files) (name : List ℕ) (found : Found) where
  pub events_found : (events : List Event) → Says events_of told name events → ReadsAs told (EventFile, name) found (record found { events = events })
  events_found events says = found_with events_of EventsRefused EventFile found told name events _ (λ text e. ap (with_events found) e) says

  pub events_end : (o : Outcome) → IsRefused events_of EventsRefused told name o → RefusesAs told (EventFile, name) found o
  events_end o refused = ends_with events_of EventsRefused EventFile found told name o (λ text e. either (events_of text) e) refused
    where
      either : (read : Result (List Event) (ℕ × EventsReason)) → or_refused EventsRefused read ≡ Err o → with_events found read ≡ Err o
      either (Ok events) e = cc
      either (Err bad) e = let is : EventsRefused bad.0 bad.1 ≡ o = cc in ap (λ (end : Outcome). Err end) is

  pub pipe_found : (pipe : PipeFacts) → Says pipe_of told name pipe → ReadsAs told (PipeFile, name) found (record found { pipe = pipe })
  pipe_found pipe says = found_with pipe_of PipeRefused PipeFile found told name pipe _ (λ text e. ap (with_pipe found) e) says

  pub pipe_end : (o : Outcome) → IsRefused pipe_of PipeRefused told name o → RefusesAs told (PipeFile, name) found o
  pipe_end o refused = ends_with pipe_of PipeRefused PipeFile found told name o (λ text e. either (pipe_of text) e) refused
    where
      either : (read : Result PipeFacts (ℕ × PipeReason)) → or_refused PipeRefused read ≡ Err o → with_pipe found read ≡ Err o
      either (Ok pipe) e = cc
      either (Err bad) e = let is : PipeRefused bad.0 bad.1 ≡ o = cc in ap (λ (end : Outcome). Err end) is

  module _ (asked : FlowAsked) (flow : Flow) (same : flow ≡ flow_with asked found.pipe) where
    pub settings_found : (settings : SettingsFacts) → Says (λ text. settings_of text (shape_of flow) (rules_of flow.query)) told name settings
        → ReadsAs told (ConfigFile asked, name) found (record found { settings = settings })
    settings_found settings says =
        found_with (λ text. settings_of text (shape_of flow) (rules_of flow.query)) ConfigRefused (ConfigFile asked) found told name settings _
        (λ text e. ap (λ (f : Flow). with_settings found (settings_of text (shape_of f) (rules_of f.query))) (sym same) ∙ ap (with_settings found) e) says

    pub settings_end : (o : Outcome) → IsRefused (λ text. settings_of text (shape_of flow) (rules_of flow.query)) ConfigRefused told name o → RefusesAs told (ConfigFile asked, name) found o
    settings_end o refused =
        ends_with (λ text. settings_of text (shape_of flow) (rules_of flow.query)) ConfigRefused (ConfigFile asked) found told name o
        (λ text e. ap (λ (f : Flow). with_settings found (settings_of text (shape_of f) (rules_of f.query))) (sym same) ∙ either (settings_of text (shape_of flow) (rules_of flow.query)) e) refused
      where
        either : (read : Result SettingsFacts (ℕ × ControlReason)) → or_refused ConfigRefused read ≡ Err o → with_settings found read ≡ Err o
        either (Ok settings) e = cc
        either (Err bad) e = let is : ConfigRefused bad.0 bad.1 ≡ o = cc in ap (λ (end : Outcome). Err end) is

    pub journal_found : (lists : List (List Kept)) → Says (λ text. journal_of text (shape_of flow)) told name lists
        → ReadsAs told (JournalFile asked, name) found (record found { journal = lists })
    journal_found lists says =
        found_with (λ text. journal_of text (shape_of flow)) JournalRefused (JournalFile asked) found told name lists _
        (λ text e. ap (λ (f : Flow). with_journal found (journal_of text (shape_of f))) (sym same) ∙ ap (with_journal found) e) says

    pub journal_end : (o : Outcome) → IsRefused (λ text. journal_of text (shape_of flow)) JournalRefused told name o → RefusesAs told (JournalFile asked, name) found o
    journal_end o refused =
        ends_with (λ text. journal_of text (shape_of flow)) JournalRefused (JournalFile asked) found told name o
        (λ text e. ap (λ (f : Flow). with_journal found (journal_of text (shape_of f))) (sym same) ∙ either (journal_of text (shape_of flow)) e) refused
      where
        either : (read : Result (List (List Kept)) (ℕ × JournalReason)) → or_refused JournalRefused read ≡ Err o → with_journal found read ≡ Err o
        either (Ok lists) e = cc
        either (Err bad) e = let is : JournalRefused bad.0 bad.1 ≡ o = cc in ap (λ (end : Outcome). Err end) is

-- the same of what a reader gives, whatever was asked for and found before
module _ (told : Option Files) (name : List ℕ) (flow : Flow) where
  pub settings_given : {S E : Type 0} (view : S → SettingsFacts) (r : Result S E) → IfOk r (λ s. Says (λ text. settings_of text (shape_of flow) (rules_of flow.query)) told name (view s))
      → IfOk r (λ s. (asked : FlowAsked) (found : Found) → flow ≡ flow_with asked found.pipe → ReadsAs told (ConfigFile asked, name) found (record found { settings = view s }))
  settings_given view (Ok s) says = λ asked found same. settings_found told name found asked flow same (view s) says
  settings_given view (Err e) says = tt

  pub settings_refused : {S E : Type 0} (end : E → Outcome) (r : Result S E) → IfErr r (λ e. IsRefused (λ text. settings_of text (shape_of flow) (rules_of flow.query)) ConfigRefused told name (end e))
      → IfErr r (λ e. (asked : FlowAsked) (found : Found) → flow ≡ flow_with asked found.pipe → RefusesAs told (ConfigFile asked, name) found (end e))
  settings_refused end (Ok s) refused = tt
  settings_refused end (Err e) refused = λ asked found same. settings_end told name found asked flow same (end e) refused

  pub journal_given : {S E : Type 0} (view : S → List (List Kept)) (r : Result S E) → IfOk r (λ s. Says (λ text. journal_of text (shape_of flow)) told name (view s))
      → IfOk r (λ s. (asked : FlowAsked) (found : Found) → flow ≡ flow_with asked found.pipe → ReadsAs told (JournalFile asked, name) found (record found { journal = view s }))
  journal_given view (Ok s) says = λ asked found same. journal_found told name found asked flow same (view s) says
  journal_given view (Err e) says = tt

  pub journal_refused : {S E : Type 0} (end : E → Outcome) (r : Result S E) → IfErr r (λ e. IsRefused (λ text. journal_of text (shape_of flow)) JournalRefused told name (end e))
      → IfErr r (λ e. (asked : FlowAsked) (found : Found) → flow ≡ flow_with asked found.pipe → RefusesAs told (JournalFile asked, name) found (end e))
  journal_refused end (Ok s) refused = tt
  journal_refused end (Err e) refused = λ asked found same. journal_end told name found asked flow same (end e) refused
