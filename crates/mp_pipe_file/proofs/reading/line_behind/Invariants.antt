-- The lines so far were counted.
use Rattle.std.proofs.Common.{◌≡◌, ◌+◌, length}
use Rattle.mp_pipe_file.proofs.reading.line_behind.Given as goal
use Rattle.mp_text.specs.Lines.{lines_of}

abbrev pub invariant-loop-count : goal.invariant-loop-count
invariant-loop-count l = l.count + length l.lines.lines ≡ length (lines_of l.text)
