-- The lines of the steps so far are written.
use Rattle.std.proofs.Common.{◌≡◌, take}
use Rattle.mp_journal.specs.Written.{lines_of_steps}
use Rattle.mp_outside.specs.Sink.{grown}
use Rattle.mp_report.proofs.journal.write_journal.Given as goal

abbrev pub invariant-loop-step : goal.invariant-loop-step
invariant-loop-step g l = record {
  wrote : g.S.Sink.written l.sink ≡ grown (g.S.Sink.written l.initial.sink) (lines_of_steps l.worker (take l.step-index l.steps));
  frame : g.S.Sink.frame l.sink ≡ g.S.Sink.frame l.initial.sink;
  no_fault : g.S.Sink.faults l.sink ≡ g.S.Sink.faults l.initial.sink;
}
