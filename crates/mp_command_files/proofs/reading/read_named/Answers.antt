-- Each refusal of the reader has its own reason.
use Rattle.std.proofs.Common.{refl}
use Rattle.mp_command_files.specs.Texts.{absent, large, failed, no_memory}
use Rattle.mp_command_files.proofs.reading.read_named.Goals as goal

pub returns-in-Err-NotThere-clause-refused : goal.returns-in-Err-NotThere-clause-refused
returns-in-Err-NotThere-clause-refused g c =
    let told = rw c.in-Err-NotThere.field-0-is at c.in-Err-NotThere.ensures.not_there in absent (told refl)

pub returns-in-Err-Failed-clause-refused : goal.returns-in-Err-Failed-clause-refused
returns-in-Err-Failed-clause-refused g c = failed

pub returns-in-Err-TooLarge-clause-refused : goal.returns-in-Err-TooLarge-clause-refused
returns-in-Err-TooLarge-clause-refused g c =
    let told = rw c.in-Err-TooLarge.field-0-is at c.in-Err-TooLarge.ensures.too_large in large (told refl)

pub returns-in-Err-NoMemory-clause-refused : goal.returns-in-Err-NoMemory-clause-refused
returns-in-Err-NoMemory-clause-refused g c = no_memory
