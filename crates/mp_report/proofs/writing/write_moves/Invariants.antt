-- The lines of the moves so far are written.
use Rattle.std.proofs.Common.{◌≡◌, take}
use Rattle.mp_outside.specs.Sink.{grown}
use Rattle.mp_report.specs.Report.{move_lines}
use Rattle.mp_report.specs.Told.{keys_in}
use Rattle.mp_report.proofs.writing.write_moves.Given as goal

abbrev pub invariant-loop-change : goal.invariant-loop-change
invariant-loop-change g l = record {
  wrote : g.S.Sink.written l.sink ≡ grown (g.S.Sink.written l.initial.sink) (move_lines (keys_in l.packets) (take l.change-index l.moves));
  frame : g.S.Sink.frame l.sink ≡ g.S.Sink.frame l.initial.sink;
  no_fault : g.S.Sink.faults l.sink ≡ g.S.Sink.faults l.initial.sink;
}
