-- The fields so far pass their checks.
use Rattle.mp_lines.proofs.FieldSteps.{IsReadUpTo}
use Rattle.mp_lines.proofs.checks.read_numbers.Given as goal

abbrev pub invariant-loop-place : goal.invariant-loop-place
invariant-loop-place g l = IsReadUpTo g.C.FieldCheck.failures g.C.FieldCheck.number l.checks l.fields l.place l.numbers
