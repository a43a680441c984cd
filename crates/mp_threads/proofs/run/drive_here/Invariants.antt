use Rattle.std.proofs.Common.{◌≡◌}
use Rattle.std.specs.Prelude.{map}
use Rattle.mp_threads_member.specs.Driving.{GoesOn}
use Rattle.mp_threads_place.specs.Places.{mark_at}
use Rattle.mp_threads.proofs.run.drive_here.Given as goal
use Rattle.mp_model.specs.Tables.{table_of}

abbrev pub invariant-loop : goal.invariant-loop
invariant-loop g l = record {
  on : GoesOn (table_of g.Q.Query.facts g.J.Naming.job) g.J.Naming.job g.S.Sink.written g.S.Sink.faults g.S.Sink.frame l.fn.first l.first l.fn.sink l.sink;
  marks : map mark_at l.places ≡ map mark_at l.fn.places;
}
