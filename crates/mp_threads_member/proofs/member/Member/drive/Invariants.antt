use Rattle.mp_threads_member.specs.Driving.{GoesOn}
use Rattle.mp_threads_member.proofs.member.Member.drive.Given as goal
use Rattle.mp_model.specs.Tables.{table_of}

abbrev pub invariant-loop : goal.invariant-loop
invariant-loop g l =
    GoesOn (table_of g.Q.Query.facts g.J.Naming.job) g.J.Naming.job g.S.Sink.written g.S.Sink.faults g.S.Sink.frame l.fn.self l.self l.fn.sink l.sink
