-- What stopped a run, as the refusal of the command.
use Rattle.mp_board.specs.declared.causes.Cause.{Cause}
use Rattle.mp_board.specs.declared.causes.Cause.TheVariants as cause
use Rattle.mp_command_files.specs.declared.refusal.Refusal.{Refusal}
use Rattle.mp_command_files.specs.declared.refusal.Refusal.TheVariants as refusal

-- the refusal where workers have stopped
abbrev pub refused_after : Cause → Refusal
refused_after cause.Write = refusal.WriteFault
refused_after cause.Memory = refusal.NoMemory
