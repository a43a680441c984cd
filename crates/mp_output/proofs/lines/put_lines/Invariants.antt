-- The lines of the rows so far are put behind the others.
use Rattle.std.proofs.Common.{◌≡◌, ◌++◌, take}
use Rattle.mp_output.specs.Unwritten.{lines_of}
use Rattle.mp_output.proofs.lines.put_lines.Given as goal

abbrev pub invariant-loop-index : goal.invariant-loop-index
invariant-loop-index l = l.lines.items ≡ l.initial.lines.items ++ lines_of (take l.index l.block.items)
