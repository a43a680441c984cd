-- The options so far are added.
use Rattle.std.proofs.Common.{take}
use Rattle.mp_words.specs.Tables.{Denotes, shape_with}
use Rattle.mp_words.proofs.command.with_options.Given as goal

abbrev pub invariant-loop-option : goal.invariant-loop-option
invariant-loop-option l = Denotes (shape_with l.name (take l.option-index l.options)) l.command
