-- The lines so far say what is said so far.
use Rattle.mp_lines.proofs.SoFar.{IsReadSoFar}
use Rattle.mp_lines.proofs.reading.read_lines.Given as goal

abbrev pub invariant-loop-line : goal.invariant-loop-line
invariant-loop-line g l = IsReadSoFar (g.R.LineReader.rules l.reader) l.initial.state l.text l.state l.lines
