-- How a run ends whose answer waits in a buffer.
use Rattle.std.specs.Prelude.{Err, Ok, Result}
use Rattle.mp_outside.specs.declared.fault.Fault.{Fault}
use Rattle.mp_command_files.specs.declared.refusal.Refusal.{Refusal}
use Rattle.mp_command_files.specs.Refused.{refused_for}

-- as the run itself did; but one that gave an answer gives none where what waits can't be handed on
abbrev pub once_flushed : {T : Type 0} → Result T Refusal → Result Unit Fault → Result T Refusal
once_flushed (Ok run) (Ok done) = Ok run
once_flushed (Ok run) (Err fault) = Err (refused_for fault)
once_flushed (Err refusal) flushed = Err refusal
