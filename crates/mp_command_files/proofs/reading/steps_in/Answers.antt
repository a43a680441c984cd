-- The reader found no memory.
use Rattle.std.proofs.Common.{inl}
use Rattle.mp_command_files.specs.Texts.{no_memory}
use Rattle.mp_command_files.proofs.reading.steps_in.Goals as goal

pub returns-clause-refused : goal.returns-clause-refused
returns-clause-refused g c = inl no_memory
