-- So many rows are there, all of zeros.
use Rattle.mp_stamps.specs.Counts.{AreZeroRows}
use Rattle.mp_stamps.proofs.counts.zero_rows.Given as goal

abbrev pub invariant-loop : goal.invariant-loop
invariant-loop l = AreZeroRows l.counter l.times l.rows.items
