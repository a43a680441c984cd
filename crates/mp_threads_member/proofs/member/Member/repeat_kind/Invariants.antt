-- Each step so far was made, and brought the worker further.
use Rattle.std.proofs.Common.{◌≡◌, ◌<◌}
use Rattle.mp_model.specs.Tables.{table_of}
use Rattle.mp_threads_member.specs.Driving.{GoesOn}
use Rattle.mp_threads_member.specs.Rounds.{HasComeFurther}
use Rattle.mp_threads_member.proofs.member.Member.repeat_kind.Given as goal

abbrev pub invariant-loop-number : goal.invariant-loop-number
invariant-loop-number g l = record {
  on : GoesOn (table_of g.Q.Query.facts g.J.Naming.job) g.J.Naming.job g.S.Sink.written g.S.Sink.faults g.S.Sink.frame l.fn.self l.self l.fn.sink l.sink;
  none : l.number ≡ 0 → l.self ≡ l.fn.self;
  further : 0 < l.number → HasComeFurther l.fn.self l.self;
}
