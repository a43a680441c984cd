-- The lines of the workers so far are written.
use Rattle.std.proofs.Common.{◌≡◌}
use Rattle.mp_outside.specs.Sink.{grown}
use Rattle.mp_report.specs.Report.{worker_lines}
use Rattle.mp_report.specs.Told.{groups_told}
use Rattle.mp_report.proofs.writing.write_workers.Given as goal

abbrev pub invariant-loop-worker : goal.invariant-loop-worker
invariant-loop-worker g l = record {
  wrote : g.S.Sink.written l.sink ≡ grown (g.S.Sink.written l.initial.sink) (worker_lines (groups_told l.tallies) l.worker);
  frame : g.S.Sink.frame l.sink ≡ g.S.Sink.frame l.initial.sink;
  no_fault : g.S.Sink.faults l.sink ≡ g.S.Sink.faults l.initial.sink;
}
