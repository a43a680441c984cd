-- The lines of the events so far are written.
use Rattle.std.proofs.Common.{◌≡◌, ◌≤◌, take}
use Rattle.mp_outside.specs.Sink.{grown}
use Rattle.mp_command_files.specs.EventFile.{event_file}
use Rattle.mp_command_files.proofs.event_file.write_events.Given as goal

abbrev pub invariant-loop-event : goal.invariant-loop-event
invariant-loop-event g l = record {
  written : g.S.Sink.written l.sink ≡ grown (g.S.Sink.written l.fn.sink) (event_file (take l.event-index l.events));
  frame : g.S.Sink.frame l.sink ≡ g.S.Sink.frame l.fn.sink;
  faults : g.S.Sink.faults l.fn.sink ≤ g.S.Sink.faults l.sink;
}
