-- What the files call for, and which outcomes may come of a command.
use Rattle.std.specs.Prelude.{ℕ, ◌≡◌, ◌≢◌, ◌⊎◌, Option, Some, None, Result, Ok, Err, List, [], ◌∷◌, MatchOption, OnSome, if◌then◌else◌, length, nat_le}
use Rattle.mp_control.specs.declared.refused.ControlReason.{ControlReason}
use Rattle.mp_events.specs.declared.refused.EventsReason.{EventsReason}
use Rattle.mp_journal.specs.declared.refused.JournalReason.{JournalReason}
use Rattle.mp_names.specs.Limits.{most_bytes}
use Rattle.mp_pipe_file.specs.declared.refused.PipeReason.{PipeReason}
use Rattle.mp_outside.specs.Files.{Files, file_at}
use Rattle.mp_words.specs.Words.{Asked}
use Rattle.mp_command.specs.Audits.{IsRefuted, refuted_end}
use Rattle.mp_command.specs.Inputs.{Found, Input, AnswerFile, CheckpointFile, ConfigFile, EventFile, JournalFile, PipeFile, inputs_of, nothing_found, read_as}
use Rattle.mp_command.specs.Lines.{line_after}
use Rattle.mp_command_files.specs.Outcome.{Outcome, Answered, ConfigRefused, EventsRefused, JournalRefused, NoFile, NoMemory, PipeRefused, ReadFault, StopsAnswer, TooLarge, Usage, WriteFault, status_of}
use Rattle.mp_command.specs.Reading.{ReadsAll}

-- what comes of a named file: it isn't there, it is larger than is allowed, or it has a text
abbrev pub with_text : List ℕ → Option (List ℕ) → (List ℕ → Outcome) → Outcome
with_text name None next = NoFile name
with_text name (Some text) next = if nat_le (length text) most_bytes then next text else TooLarge name

-- what comes next, but where a text was refused
abbrev pub unless_refused : (Found → Outcome) → Result Found Outcome → Outcome
unless_refused next (Ok found) = next found
unless_refused next (Err outcome) = outcome

-- What files call for that are read one after the other, behind what was found before: the first that gives no text, or a
-- text that is refused, ends the call; where none does, a line is said, by what was found
abbrev pub files_call_for : Option Files → List (Input × List ℕ) → (Found → List ℕ) → Found → Outcome
files_call_for told [] line found = Answered (line found)
files_call_for told (input ∷ more) line found =
    with_text input.1 (file_at told input.1) (λ text. unless_refused (files_call_for told more line) (read_as input.0 found text))

-- what a command calls for, by what the files hold, where none of it is refuted
abbrev pub called_for : Option Files → Asked → Outcome
called_for told asked = files_call_for told (inputs_of asked) (line_after asked) nothing_found

-- the file of this name is one of those that are read
abbrev pub IsNamedIn : List (Input × List ℕ) → List ℕ → Type 0
IsNamedIn [] name = ⊥
IsNamedIn (input ∷ more) name = (name ≡ input.1) ⊎ IsNamedIn more name

-- A fault of the outside, or want of memory, may come in place of what is called for. A read may fail only where
-- files are read, and a write only where an answer is called for
abbrev pub MayFail : List (Input × List ℕ) → Outcome → Outcome → Type 0
MayFail inputs called outcome =
    ((outcome ≡ ReadFault) × (inputs ≢ [])) ⊎ (((outcome ≡ WriteFault) × (status_of called ≡ 0)) ⊎ (outcome ≡ NoMemory))

-- the text of an input is refused so
abbrev pub IsRefusalOf : Input → Outcome → Type 0
IsRefusalOf EventFile outcome = (line : ℕ) × (why : EventsReason) × (outcome ≡ EventsRefused line why)
IsRefusalOf PipeFile outcome = (line : ℕ) × (why : PipeReason) × (outcome ≡ PipeRefused line why)
IsRefusalOf (ConfigFile flow) outcome = (line : ℕ) × (why : ControlReason) × (outcome ≡ ConfigRefused line why)
IsRefusalOf CheckpointFile outcome = ⊥
IsRefusalOf AnswerFile outcome = ⊥
IsRefusalOf (JournalFile flow) outcome = (line : ℕ) × (why : JournalReason) × (outcome ≡ JournalRefused line why)

-- what may come of one of the files that are read, whatever they hold, in place of a line
abbrev pub ComesOf : List (Input × List ℕ) → Outcome → Type 0
ComesOf [] outcome = ⊥
ComesOf (input ∷ more) outcome =
    (outcome ≡ NoFile input.1)
    ⊎ ((outcome ≡ TooLarge input.1)
    ⊎ ((outcome ≡ ReadFault)
    ⊎ (IsRefusalOf input.0 outcome ⊎ ComesOf more outcome)))

-- an outcome of a command, whatever the files hold: the line of something that is found, an end that comes of one of the files, a
-- fault of a write, or want of memory
abbrev pub IsOfCommand : List (Input × List ℕ) → (Found → List ℕ) → Outcome → Type 0
IsOfCommand inputs line outcome =
    ((found : Found) × (outcome ≡ Answered (line found))) ⊎ (ComesOf inputs outcome ⊎ StopsAnswer outcome)

-- the outcomes of a command that may come: where the depot tells its files, it ends as these call for, or fails
abbrev pub MayEnd : Option Files → List (Input × List ℕ) → (Found → List ℕ) → Outcome → Type 0
MayEnd told inputs line outcome =
    MatchOption told (IsOfCommand inputs line outcome)
    (λ _. (outcome ≡ files_call_for told inputs line nothing_found) ⊎ MayFail inputs (files_call_for told inputs line nothing_found) outcome)

-- the files of a command were read, and what they say is refuted
abbrev pub Refutes : Option Files → Asked → Type 0
Refutes told asked = (found : Found) × ReadsAll told (inputs_of asked) nothing_found found × IsRefuted asked found

-- a command may end as it does where it refutes what it found; where the depot tells its files, only by what they say
abbrev pub MayEndRefuted : Option Files → Asked → Outcome → Type 0
MayEndRefuted told asked outcome = (refuted_end asked ≡ Some outcome) × OnSome told (Refutes told asked)

-- The outcomes that may come. Words that are no command end as usage
abbrev pub MayCome : Option Asked → Option Files → Outcome → Type 0
MayCome None told outcome = (outcome ≡ Usage) ⊎ (outcome ≡ NoMemory)
MayCome (Some asked) told outcome = MayEnd told (inputs_of asked) (line_after asked) outcome ⊎ MayEndRefuted told asked outcome
