-- The steps of the workers so far are written.
use Rattle.std.proofs.Common.{◌≡◌, ◌≤◌, map}
use Rattle.mp_outside.specs.Sink.{grown}
use Rattle.mp_report.specs.Journal.{journal_lines}
use Rattle.mp_command.proofs.reporting.write_lists.Given as goal

abbrev pub invariant-loop-worker : goal.invariant-loop-worker
invariant-loop-worker g l = record {
  wrote : g.S.Sink.written l.sink ≡ grown (g.S.Sink.written l.initial.sink) (journal_lines (map (λ v. v.items) l.lists) l.worker);
  frame : g.S.Sink.frame l.sink ≡ g.S.Sink.frame l.initial.sink;
  faults : g.S.Sink.faults l.initial.sink ≤ g.S.Sink.faults l.sink;
}
