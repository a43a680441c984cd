-- What the files of an audit say, as the code has them.
use Rattle.std.specs.Prelude.{map}
use Rattle.mp_audit_command.specs.declared.reading.Audited.{Audited}
use Rattle.mp_command.specs.InputFiles.{found_in as found_by_run}
use Rattle.mp_command.specs.Inputs.{Found}

-- what they say
abbrev pub found_in : Audited → Found
found_in read = record (found_by_run read.inputs) { answer = read.answer.items; journal = map (λ v. v.items) read.journal.items }
