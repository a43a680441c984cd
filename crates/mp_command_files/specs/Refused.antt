-- What a refusal says, as plain data.
use Rattle.std.specs.Prelude.{ℕ, ◌≡◌, List, Result, Ok, Err}
use Rattle.std.specs.Global.{Global}
use Rattle.std.specs.declared.vec.Vec.{Vec}
use Rattle.mp_output.specs.declared.refused.OutRefused.{OutRefused}
use Rattle.mp_output.specs.declared.refused.OutRefused.TheVariants as out
use Rattle.mp_outside.specs.declared.fault.Fault.{Fault}
use Rattle.mp_outside.specs.declared.fault.Fault.TheVariants as fault
use Rattle.mp_command_files.specs.declared.refusal.Refusal.{Refusal}
use Rattle.mp_command_files.specs.declared.refusal.Refusal.TheVariants as refusal
use Rattle.mp_command_files.specs.Outcome.{Outcome, Answered, BadCheckpoint, Usage, EventsRefused, ConfigRefused, JournalRefused, NoFile, NoRun}
use Rattle.mp_command_files.specs.Outcome.{ReadFault, WriteFault, NoMemory, PipeRefused, TooLarge, line_said, status_of}

-- how a call ends with this refusal
abbrev pub outcome_of : Refusal → Outcome
outcome_of refusal.Usage = Usage
outcome_of (refusal.EventsRefused line why) = EventsRefused line why
outcome_of (refusal.ConfigRefused line why) = ConfigRefused line why
outcome_of (refusal.NoFile name) = NoFile name.now
outcome_of refusal.ReadFault = ReadFault
outcome_of refusal.WriteFault = WriteFault
outcome_of refusal.NoMemory = NoMemory
outcome_of (refusal.TooLarge name) = TooLarge name.now
outcome_of (refusal.BadCheckpoint name) = BadCheckpoint name.now
outcome_of (refusal.PipeRefused line why) = PipeRefused line why
outcome_of refusal.NoRun = NoRun
outcome_of (refusal.JournalRefused line why) = JournalRefused line why

-- how a call ends with this line, or with this refusal
abbrev pub outcome_in : Result (Vec ℕ Global) Refusal → Outcome
outcome_in (Ok line) = Answered line.items
outcome_in (Err refused) = outcome_of refused

-- the command ends with this status at this refusal
abbrev pub EndsAs : Refusal → ℕ → Type 0
EndsAs refusal status = status_of (outcome_of refusal) ≡ status

-- the line of a refusal, with its line feed
abbrev pub line_of : Refusal → List ℕ
line_of refusal = line_said (outcome_of refusal)

-- the refusal at a fault of the writing
abbrev pub refused_for : Fault → Refusal
refused_for fault.Failed = refusal.WriteFault
refused_for fault.NoMemory = refusal.NoMemory

-- the refusal where a report isn't written
abbrev pub refused_by : OutRefused → Refusal
refused_by out.WriteFault = refusal.WriteFault
refused_by out.NoMemory = refusal.NoMemory
