-- Which outcomes may come.
use Rattle.std.proofs.Common.{Result, Ok, Err, ℕ, ◌≡◌, ◌<◌, ◌⊎◌, inl, inr, true, false, Option, Some, None, [], ◌∷◌, List, length, refl, sym, ap, ◌∙◌}
use Rattle.std.specs.Prelude.{nat_le, IsSomeAnd, ◌≢◌}
use Rattle.std.proofs.lemmas.Bool.{le-leb, lt-leb}
use Rattle.mp_control.specs.declared.refused.ControlReason.{ControlReason}
use Rattle.mp_control.specs.Settings.{SettingsFacts, settings_of}
use Rattle.mp_events.specs.declared.refused.EventsReason.{EventsReason}
use Rattle.mp_events.specs.Events.{events_of}
use Rattle.mp_journal.specs.declared.refused.JournalReason.{JournalReason}
use Rattle.mp_journal.specs.Journals.{journal_of}
use Rattle.mp_model.specs.declared.record.Event.{Event}
use Rattle.mp_names.specs.declared.kinds.Kept.{Kept}
use Rattle.mp_names.specs.Limits.{most_bytes}
use Rattle.mp_outside.specs.Files.{Files, file_at, IsThereWith}
use Rattle.mp_pipe_file.specs.declared.refused.PipeReason.{PipeReason}
use Rattle.mp_pipe_file.specs.Pipes.{pipe_of}
use Rattle.mp_pipeline.specs.Pipes.{PipeFacts}
use Rattle.mp_words.specs.Words.{Asked}
use Rattle.mp_command_files.specs.Outcome.{StopsAnswer}
use Rattle.mp_command.specs.Calls.{ComesOf, IsOfCommand, IsRefusalOf, MayCome, MayEnd, files_call_for, unless_refused, with_text}
use Rattle.mp_command.specs.declared.flow.Flow.{Flow}
use Rattle.mp_command.specs.Config.{flow_with, shape_of}
use Rattle.mp_command.specs.Ends.{IsRefusal}
use Rattle.mp_command.specs.Inputs.{AnswerFile, CheckpointFile, ConfigFile, EventFile, Found, Input, JournalFile, PipeFile, nothing_found, read_as, with_events, with_journal, with_pipe, with_settings}
use Rattle.mp_command_files.specs.Outcome.{Outcome, Answered, ConfigRefused, EventsRefused, JournalRefused, NoMemory, PipeRefused, ReadFault, status_of}
use Rattle.mp_command.specs.Queries.{rules_of}
use Rattle.mp_command_files.specs.Texts.{CannotRead, IsRead, absent, failed, large, no_memory}
use Rattle.mp_command.specs.Reading.{ReadsAll, ReadsAs, RefusesAs, RefusesOne}

-- the bytes of a name that is there with a property, where files are told
held : (files : Files) (name : List ℕ) (Has : List ℕ → Type 0) → IsThereWith (Some files) name Has → (bytes : List ℕ) × (file_at (Some files) name ≡ Some bytes) × Has bytes
held files name Has h = some (files name) (h files refl)
  where
    some : (o : Option (List ℕ)) → IsSomeAnd o Has → (bytes : List ℕ) × (o ≡ Some bytes) × Has bytes
    some (Some bytes) has = (bytes, refl, has)
    some None has = absurd has

-- a text that was read is what the checks go on with
read_goes_on : (files : Files) (name text : List ℕ) (next : List ℕ → Outcome) → IsRead (Some files) name text → with_text name (file_at (Some files) name) next ≡ next text
read_goes_on files name text next r =
    let h = held files name (λ (bytes : List ℕ). text ≡ bytes) r.whole in
    let short : nat_le (length text) most_bytes ≡ true = le-leb _ _ r.within in
    rw (h.1, ← h.2, short) refl

-- the refusal of a text is one of its kind
pub refusal_of_text : (input : Input) (found : Found) (text : List ℕ) (o : Outcome) → read_as input found text ≡ Err o → IsRefusalOf input o
refusal_of_text EventFile found text o e = either (events_of text) e
  where
    either : (events : Result (List Event) (ℕ × EventsReason)) → with_events found events ≡ Err o → IsRefusalOf EventFile o
    either (Ok events) h = cc
    either (Err bad) h =
        let is : EventsRefused bad.0 bad.1 ≡ o = cc in (bad.0, bad.1, sym is)
refusal_of_text PipeFile found text o e = either (pipe_of text) e
  where
    either : (pipe : Result PipeFacts (ℕ × PipeReason)) → with_pipe found pipe ≡ Err o → IsRefusalOf PipeFile o
    either (Ok pipe) h = cc
    either (Err bad) h =
        let is : PipeRefused bad.0 bad.1 ≡ o = cc in (bad.0, bad.1, sym is)
refusal_of_text (ConfigFile asked) found text o e =
    let flow : Flow = flow_with asked found.pipe in either (settings_of text (shape_of flow) (rules_of flow.query)) e
  where
    either : (settings : Result SettingsFacts (ℕ × ControlReason)) → with_settings found settings ≡ Err o → IsRefusalOf (ConfigFile asked) o
    either (Ok settings) h = cc
    either (Err bad) h =
        let is : ConfigRefused bad.0 bad.1 ≡ o = cc in (bad.0, bad.1, sym is)
refusal_of_text CheckpointFile found text o e = cc
refusal_of_text AnswerFile found text o e = cc
refusal_of_text (JournalFile asked) found text o e = either (journal_of text (shape_of (flow_with asked found.pipe))) e
  where
    either : (lists : Result (List (List Kept)) (ℕ × JournalReason)) → with_journal found lists ≡ Err o → IsRefusalOf (JournalFile asked) o
    either (Ok lists) h = cc
    either (Err bad) h =
        let is : JournalRefused bad.0 bad.1 ≡ o = cc in (bad.0, bad.1, sym is)

-- such a refusal has the status of one
status_of_text : (input : Input) (o : Outcome) → IsRefusalOf input o → IsRefusal (status_of o)
status_of_text EventFile o (line, why, is) = inr (inl (ap status_of is))
status_of_text PipeFile o (line, why, is) = inr (inr (inr (inr (inr (inr (inr (inl (ap status_of is))))))))
status_of_text (ConfigFile asked) o (line, why, is) = inr (inr (inl (ap status_of is)))
status_of_text CheckpointFile o none = absurd none
status_of_text AnswerFile o none = absurd none
status_of_text (JournalFile asked) o (line, why, is) = inr (inr (inr (inr (inr (inr (inr (inr (inr (ap status_of is)))))))))

-- files that can't be read, or are refused, end the call with a refusal, or for want of memory
pub refuses_as_refusal : (told : Option Files) (inputs : List (Input × List ℕ)) (before : Found) (o : Outcome) → RefusesOne told inputs before o → IsRefusal (status_of o) ⊎ (o ≡ NoMemory)
refuses_as_refusal told [] before o r = absurd r
refuses_as_refusal told (input ∷ more) before o (inl (inl cannot)) = go o cannot
  where
    go : (o : Outcome) → CannotRead told input.1 o → IsRefusal (status_of o) ⊎ (o ≡ NoMemory)
    go o (absent none) = inl (inr (inr (inr (inl refl))))
    go o (large bytes) = inl (inr (inr (inr (inr (inr (inl refl))))))
    go o failed = inl (inr (inr (inr (inr (inl refl)))))
    go o no_memory = inr refl
refuses_as_refusal told (input ∷ more) before o (inl (inr bad)) = inl (status_of_text input.0 o (refusal_of_text input.0 before bad.0 o bad.2))
refuses_as_refusal told (input ∷ more) before o (inr later) = refuses_as_refusal told more later.0 o later.2

-- what comes of files, whatever they hold
comes_of : (inputs : List (Input × List ℕ)) (before : Found) (o : Outcome) → RefusesOne None inputs before o → ComesOf inputs o ⊎ (o ≡ NoMemory)
comes_of [] before o r = absurd r
comes_of (input ∷ more) before o (inl (inl cannot)) = go o cannot
  where
    go : (o : Outcome) → CannotRead None input.1 o → ComesOf (input ∷ more) o ⊎ (o ≡ NoMemory)
    go o (absent none) = inl (inl refl)
    go o (large bytes) = inl (inr (inl refl))
    go o failed = inl (inr (inr (inl refl)))
    go o no_memory = inr refl
comes_of (input ∷ more) before o (inl (inr bad)) = inl (inr (inr (inr (inl (refusal_of_text input.0 before bad.0 o bad.2)))))
comes_of (input ∷ more) before o (inr later) = go (comes_of more later.0 o later.2)
  where
    go : ComesOf more o ⊎ (o ≡ NoMemory) → ComesOf (input ∷ more) o ⊎ (o ≡ NoMemory)
    go (inl comes) = inl (inr (inr (inr (inr comes))))
    go (inr memory) = inr memory

module _ (files : Files) (line : Found → List ℕ) where
  -- a file that was read is what the next ones go on from
  goes_on : (input : Input × List ℕ) (more : List (Input × List ℕ)) (before after : Found) → ReadsAs (Some files) input before after
      → files_call_for (Some files) (input ∷ more) line before ≡ files_call_for (Some files) more line after
  goes_on input more before after r =
      let next : Found → Outcome = files_call_for (Some files) more line in
      read_goes_on files input.1 r.0 (λ text. unless_refused next (read_as input.0 before text)) r.1 ∙ ap (unless_refused next) r.2

  -- one that was refused ends the call
  goes_off : (input : Input × List ℕ) (more : List (Input × List ℕ)) (before : Found) (o : Outcome) → RefusesAs (Some files) input before o
      → (o ≡ files_call_for (Some files) (input ∷ more) line before) ⊎ ((o ≡ ReadFault) ⊎ (o ≡ NoMemory))
  goes_off input more before o (inr bad) =
      let next : Found → Outcome = files_call_for (Some files) more line in
      inl (sym (read_goes_on files input.1 bad.0 (λ text. unless_refused next (read_as input.0 before text)) bad.1 ∙ ap (unless_refused next) bad.2))
  goes_off input more before o (inl cannot) = go o cannot
    where
      go : (o : Outcome) → CannotRead (Some files) input.1 o → (o ≡ files_call_for (Some files) (input ∷ more) line before) ⊎ ((o ≡ ReadFault) ⊎ (o ≡ NoMemory))
      go o (absent none) = inl (rw none refl)
      go o (large bytes) =
          let h = held files input.1 (λ (bytes : List ℕ). most_bytes < length bytes) bytes in
          let long : nat_le (length h.0) most_bytes ≡ false = lt-leb _ _ h.2 in
          inl (rw (h.1, long) refl)
      go o failed = inr (inl refl)
      go o no_memory = inr (inr refl)

  -- what files that were all read call for
  read_calls : (inputs : List (Input × List ℕ)) (before after : Found) → ReadsAll (Some files) inputs before after → files_call_for (Some files) inputs line before ≡ Answered (line after)
  read_calls [] before after r = ap (λ (found : Found). Answered (line found)) (sym r)
  read_calls (input ∷ more) before after r = goes_on input more before r.0 r.1 ∙ read_calls more r.0 after r.2

  -- where one was refused, that is what they call for, or a fault
  refused_calls : (inputs : List (Input × List ℕ)) (before : Found) (o : Outcome) → RefusesOne (Some files) inputs before o
      → (o ≡ files_call_for (Some files) inputs line before) ⊎ ((o ≡ ReadFault) ⊎ (o ≡ NoMemory))
  refused_calls [] before o r = absurd r
  refused_calls (input ∷ more) before o (inl refuses) = goes_off input more before o refuses
  refused_calls (input ∷ more) before o (inr later) = go (refused_calls more later.0 o later.2)
    where
      go : (o ≡ files_call_for (Some files) more line later.0) ⊎ ((o ≡ ReadFault) ⊎ (o ≡ NoMemory)) → (o ≡ files_call_for (Some files) (input ∷ more) line before) ⊎ ((o ≡ ReadFault) ⊎ (o ≡ NoMemory))
      go (inl called) = inl (called ∙ sym (goes_on input more before later.0 later.1))
      go (inr fault) = inr fault

-- something is read where a file was refused
some_input : (told : Option Files) (inputs : List (Input × List ℕ)) (before : Found) (o : Outcome) → RefusesOne told inputs before o → inputs ≢ []
some_input told [] before o r = absurd r
some_input told (input ∷ more) before o r = λ none. cc

module _ (inputs : List (Input × List ℕ)) (line : Found → List ℕ) where
  -- one of the files was refused
  pub may_refuse : (told : Option Files) (o : Outcome) → RefusesOne told inputs nothing_found o → MayEnd told inputs line o
  may_refuse None o r = go (comes_of inputs nothing_found o r)
    where
      go : ComesOf inputs o ⊎ (o ≡ NoMemory) → IsOfCommand inputs line o
      go (inl comes) = inr (inl comes)
      go (inr memory) = inr (inr (inr memory))
  may_refuse (Some files) o r = go (refused_calls files line inputs nothing_found o r)
    where
      go : (o ≡ files_call_for (Some files) inputs line nothing_found) ⊎ ((o ≡ ReadFault) ⊎ (o ≡ NoMemory)) → MayEnd (Some files) inputs line o
      go (inl called) = inl called
      go (inr (inl fault)) = inr (inl (fault, some_input (Some files) inputs nothing_found o r))
      go (inr (inr memory)) = inr (inr (inr memory))

  -- all were read
  pub may_answer : (told : Option Files) (found : Found) → ReadsAll told inputs nothing_found found → MayEnd told inputs line (Answered (line found))
  may_answer None found r = inl (found, refl)
  may_answer (Some files) found r = inl (sym (read_calls files line inputs nothing_found found r))

  -- and then the writing was stopped
  pub may_stop : (told : Option Files) (found : Found) (o : Outcome) → ReadsAll told inputs nothing_found found → StopsAnswer o → MayEnd told inputs line o
  may_stop None found o r stops = inr (inr stops)
  may_stop (Some files) found o r (inl fault) = inr (inr (inl (fault, ap status_of (read_calls files line inputs nothing_found found r))))
  may_stop (Some files) found o r (inr memory) = inr (inr (inr memory))

-- want of memory may always come
pub may_lack_memory : (command : Option Asked) (told : Option Files) → MayCome command told NoMemory
may_lack_memory None told = inr refl
may_lack_memory (Some asked) None = inl (inr (inr (inr refl)))
may_lack_memory (Some asked) (Some files) = inl (inr (inr (inr refl)))
