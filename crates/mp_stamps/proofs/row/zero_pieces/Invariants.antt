-- So many pieces are there, all of zeros.
use Rattle.mp_stamps.specs.Rows.{AreFresh}
use Rattle.mp_stamps.proofs.row.zero_pieces.Given as goal

abbrev pub invariant-loop : goal.invariant-loop
invariant-loop l = AreFresh l.counter l.pieces.items
