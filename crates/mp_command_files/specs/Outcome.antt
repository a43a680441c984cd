-- How a call can end: its status and its line.
use Rattle.std.specs.Prelude.{ℕ, ◌≡◌, ◌⊎◌, ◌++◌, List, codes}
use Rattle.std.specs.Fmt.{decimal}
use Rattle.mp_control.specs.declared.refused.ControlReason.{ControlReason}
use Rattle.mp_control.specs.Reasons.{reason_text as text_of_control}
use Rattle.mp_events.specs.declared.refused.EventsReason.{EventsReason}
use Rattle.mp_events.specs.Reasons.{reason_text}
use Rattle.mp_journal.specs.declared.refused.JournalReason.{JournalReason}
use Rattle.mp_journal.specs.Reasons.{reason_text as text_of_journal}
use Rattle.mp_pipe_file.specs.declared.refused.PipeReason.{PipeReason}
use Rattle.mp_pipe_file.specs.Reasons.{reason_text as text_of_pipe}

-- how a call can end: all is done, and this line is said; or a refusal
pub data Outcome : Type 0 where
  Answered : (line : List ℕ) → Outcome
  Usage : Outcome
  EventsRefused : (line : ℕ) (why : EventsReason) → Outcome
  ConfigRefused : (line : ℕ) (why : ControlReason) → Outcome
  NoFile : (name : List ℕ) → Outcome
  ReadFault : Outcome
  WriteFault : Outcome
  NoMemory : Outcome
  TooLarge : (name : List ℕ) → Outcome
  BadCheckpoint : (name : List ℕ) → Outcome
  PipeRefused : (line : ℕ) (why : PipeReason) → Outcome
  NoRun : Outcome
  JournalRefused : (line : ℕ) (why : JournalReason) → Outcome

-- the status of the process
abbrev pub status_of : Outcome → ℕ
status_of (Answered line) = 0
status_of Usage = 2
status_of (EventsRefused line why) = 3
status_of (ConfigRefused line why) = 4
status_of (NoFile name) = 5
status_of ReadFault = 6
status_of WriteFault = 7
status_of NoMemory = 8
status_of (TooLarge name) = 9
status_of (BadCheckpoint name) = 11
status_of (PipeRefused line why) = 12
status_of NoRun = 13
status_of (JournalRefused line why) = 14

-- the line that is said, with its line feed
abbrev pub line_said : Outcome → List ℕ
line_said (Answered line) = line
line_said Usage = codes "usage: megaphone run|replay|check|make|demo|audit\n"
line_said (EventsRefused line why) =
    codes "events line " ++ (decimal line ++ (codes ": " ++ (reason_text why ++ codes "\n")))
line_said (ConfigRefused line why) =
    codes "config line " ++ (decimal line ++ (codes ": " ++ (text_of_control why ++ codes "\n")))
line_said (NoFile name) = codes "no file " ++ (name ++ codes "\n")
line_said ReadFault = codes "read fault\n"
line_said WriteFault = codes "write fault\n"
line_said NoMemory = codes "no memory\n"
line_said (TooLarge name) = codes "too large: " ++ (name ++ codes "\n")
line_said (BadCheckpoint name) = codes "bad checkpoint " ++ (name ++ codes "\n")
line_said (PipeRefused line why) =
    codes "pipe line " ++ (decimal line ++ (codes ": " ++ (text_of_pipe why ++ codes "\n")))
line_said NoRun = codes "no legal run\n"
line_said (JournalRefused line why) =
    codes "journal line " ++ (decimal line ++ (codes ": " ++ (text_of_journal why ++ codes "\n")))

-- the number of the line that is spoken of, and 0 where none is
abbrev pub number_in : Outcome → ℕ
number_in (EventsRefused line why) = line
number_in (ConfigRefused line why) = line
number_in (PipeRefused line why) = line
number_in (JournalRefused line why) = line
number_in _ = 0

-- what may stop the writing of an answer: a fault, or want of memory
abbrev pub StopsAnswer : Outcome → Type 0
StopsAnswer outcome = (outcome ≡ WriteFault) ⊎ (outcome ≡ NoMemory)
