use Rattle.std.proofs.Common.{length, ◌-◌, ◌≡◌, ◌≤◌, take}
use Rattle.mp_outside.specs.Sink.{grown}
use Rattle.mp_outside.proofs.pieces.write_piece.Given as goal

abbrev pub invariant-loop-at : goal.invariant-loop-at
invariant-loop-at g l = record {
  in_piece : l.at ≤ length l.piece;
  grew : g.S.Sink.written l.sink ≡ grown (g.S.Sink.written l.initial.sink) (take l.at l.piece);
  frame : g.S.Sink.frame l.sink ≡ g.S.Sink.frame l.initial.sink;
  no_fault : g.S.Sink.faults l.sink ≡ g.S.Sink.faults l.initial.sink;
}

abbrev pub decreases-loop-at : goal.decreases-loop-at
decreases-loop-at g l = length l.piece - l.at
